-- Every answer to a partner's table is small: a value is 0 or 1, and a place is a node of ours. Line by line of the answer. Assumes nothing.
use Prim.Native.Nat.{ℕ, ◌≤◌, ◌<◌}
use native.Mathlib.Omega.{arith}
use mathlib.Core.Bool.{Bool, true, false, not, ◌||◌, cond}
use mathlib.Core.List.{List}
use lib.Dec.{eqb, ltb}
use lib.ListN.{length}
use borrow.Author.Tests.{ltb-false}
use Rattle.paper.specs.Limits.{node_limit}
use Rattle.paper.specs.Document.{Table, nodes, table_fault}
use Rattle.paper.specs.Cut.{is_cut}
use Rattle.paper.specs.Answers.{is_cut_answer}
use Rattle.paper.proofs.Refusing.{or_none}
use Rattle.answer_bounds.specs.Bounds.{Small}
use Rattle.answer_bounds.proofs.Bounds.{small_line, small_when, table_within}

bit_small : (b : Bool) → cond b 1 0 < 4294967296
bit_small true = omega arith
bit_small false = omega arith

pub is_cut_small : (t cut : Table) (numbers : List ℕ) → Small (is_cut_answer t cut numbers)
unfolding is_cut_answer
is_cut_small t cut numbers =
    let many = ltb node_limit (nodes t) in
    let kinds = not (eqb (length t.kinds) (nodes t)) in
    let many' = ltb node_limit (nodes cut) in
    let kinds' = not (eqb (length cut.kinds) (nodes cut)) in
    let others = not (eqb (length numbers) (nodes cut)) in
    small_when 1 0 (many || kinds || many' || kinds' || others) _ (omega arith)
    (λ h.
    let few : nodes t ≤ node_limit =
    ltb-false node_limit (nodes t) (or_none many kinds (or_none (many || kinds) many' (or_none (many || kinds || many') kinds' (or_none (many || kinds || many' || kinds') others h).0).0).0).0 in
    small_line 7 (table_fault t) _ (λ p e. omega (arith, table_within t p e)) (bit_small (is_cut t cut numbers)))
