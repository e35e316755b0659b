-- Every answer to a lean composition is below 2^32: its size and its nesting are at most those of the composition. Assumes nothing.
use Prim.Native.Nat.{ℕ, ◌≤◌, ◌<◌}
use native.Mathlib.Omega.{arith}
use mathlib.Core.Path.{◌≡◌, refl}
use mathlib.Core.Bool.{◌||◌}
use mathlib.Core.List.{List}
use mathlib.Core.Option.{Option, none, some}
use lib.Dec.{ltb}
use lib.ListN.{length}
use borrow.Author.Tests.{ltb-false}
use Rattle.paper.specs.Limits.{item_limit, bracket_limit}
use Rattle.paper.specs.Query.{Query}
use Rattle.paper.specs.Items.{decode}
use Rattle.paper.specs.Measures.{size, nesting}
use Rattle.paper.specs.Answers.{Answer, too_long, line_query}
use Rattle.paper.specs.Lean.{composed_lean, compose_lean_answer}
use Rattle.paper.proofs.Refusing.{or_none}
use Rattle.paper.proofs.Sizes.{size_decoded}
use Rattle.answer_bounds.specs.Bounds.{Small}
use Rattle.answer_bounds.proofs.Bounds.{small_when, small_room}
use Rattle.answer_bounds.proofs.ComposeBounds.{nesting_size, composed_small}
use Rattle.lean_theorems.specs.Leans.{LeanSmall}
use Rattle.lean_theorems.proofs.Smaller.{no_larger}

small_query : (number place : ℕ) (o : Option Query) (later : Query → Answer) → place < 4294967296 → ((q : Query) → o ≡ some q → Small (later q))
    → Small (line_query number place o later)
small_query number place none later h l = h
small_query number place (some q) later h l = l q refl

-- EVERY ANSWER IS BELOW 2^32.
pub lean_small : LeanSmall
unfolding compose_lean_answer
lean_small outer inner room =
    small_when 1 0 (too_long outer item_limit || too_long inner item_limit) _ (omega arith)
    (λ h.
    let few = or_none (too_long outer item_limit) (too_long inner item_limit) h in
    let lo : length outer ≤ item_limit = ltb-false item_limit (length outer) few.0 in
    let li : length inner ≤ item_limit = ltb-false item_limit (length inner) few.1 in
    small_query 6 0 (decode outer) _ (omega arith)
    (λ o d.
    small_query 6 1 (decode inner) _ (omega arith)
    (λ i e.
    let q = composed_lean o i in
    let few : size q < 4294967296 =
    omega (arith, no_larger o i, composed_small o i (omega (arith, size_decoded outer o d)) (omega (arith, size_decoded inner i e))) in
    small_when 9 (nesting q) (ltb bracket_limit (nesting q)) _ (omega (arith, nesting_size q))
    (λ k. small_room (size q) (ltb room (size q) || ltb item_limit (size q)) few))))
