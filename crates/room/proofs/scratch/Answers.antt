-- `room::scratch` meets its contract: its test is line 1, and past it the number is that of the definition. Assumes nothing.
use Prim.Native.Nat.{ℕ, ◌+◌, ◌*◌, max}
use native.Mathlib.Omega.{arith}
use mathlib.Core.Path.{◌≡◌, ◌∙◌, ap}
use mathlib.Core.Bool.{true, false}
use Rattle.paper.specs.Answers.{value}
use Rattle.paper.proofs.Lending.{Wrong, wrong_number, lends}
use Rattle.room.proofs.scratch.Goals as goal

pub returns-then-wrong : goal.returns-then-wrong
returns-then-wrong c =
    let a = c.args in
    let wrong : Wrong a.nodes a.outer_height a.outer_paths a.inner_height a.inner_paths ≡ true = cc in
    wrong_number _ _ _ _ _ wrong

pub returns : goal.returns
returns c =
    let a = c.args in
    let right : Wrong a.nodes a.outer_height a.outer_paths a.inner_height a.inner_paths ≡ false = cc in
    let larger : c.max.result ≡ max 3 a.inner_height = omega (arith, c.max.ensures) in
    ap (λ (k : ℕ). value (a.nodes * 2 * (a.outer_height + k + a.inner_paths + 1 + 1))) larger ∙ lends _ _ _ _ _ right
