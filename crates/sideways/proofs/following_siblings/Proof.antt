-- `sideways::following_siblings` meets its contract: the first bits of what the pass leaves are the image. Assumes nothing.
use Prim.Native.Nat.{◌%◌}
use native.Mathlib.Omega.{arith}
use mathlib.Core.Path.{◌≡◌, ◌∙◌, ap}
use lib.ListN.{length, get_or}
use borrow.Author.Rules.{rules}
use Rattle.paper.specs.Tools.{column}
use Rattle.sideways.proofs.following_siblings.Statement.{statement}
use Rattle.sideways.proofs.following_siblings.Tie as tie

behind-siblings-requires : tie.Need-behind_siblings-requires
behind-siblings-requires c κs = search rules

-- Past the first pass.
abbrev start_of : tie.After-behind_siblings → tie.Start
start_of c = c.before.before.before.before

first-bits-requires : tie.Need-first_bits-requires
first-bits-requires c κs = search rules

same_length : tie.Need-shape_of-set
same_length c = search rules

returns : tie.Need-returns
returns c =
    λ kinds f e.
    let first = c in
    let bytes = first.behind_siblings.new.set in
    let n = length (start_of first.before.before.before.before.before.before).args.set.now in
    let size : length bytes ≡ n = omega arith in
    c.first_bits.ensures ∙ ap (λ x. column x (λ k. get_or bytes k 0 % 2)) size ∙ first.behind_siblings.ensures kinds f e

pub following_siblings_spec : {M : Type 1} → statement M
following_siblings_spec = tie.close (tie.spec behind-siblings-requires first-bits-requires same_length returns)
