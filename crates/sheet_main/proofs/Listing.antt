-- A view that was read had a list that is short enough and without fault. By the lines of the answer, none of which holds where it is a value. Assumes nothing.
use Prim.Native.Nat.{ℕ, ◌≤◌}
use mathlib.Core.Path.{◌≡◌}
use mathlib.Core.Bool.{false, ◌||◌}
use mathlib.Core.List.{List}
use mathlib.Core.Option.{none}
use lib.ListN.{length}
use borrow.Author.Tests.{ltb-false}
use Rattle.paper.specs.Tools.{when}
use Rattle.paper.specs.Limits.{text_limit, list_limit}
use Rattle.paper.specs.Names.{names_fault}
use Rattle.paper.specs.Answers.{value, too_long, read_answer}
use Rattle.paper.proofs.Refusing.{line_value, when_none, or_none}

pub list_fine : (text list : List ℕ) (room n : ℕ) → read_answer text 1 list room ≡ value n → (length list ≤ list_limit) × (names_fault list ≡ none)
unfolding read_answer
list_fine text list room n h =
    let wrong = too_long text text_limit || too_long list list_limit || false in
    let first = line_value 1 n (when wrong 0) _ h in
    let second = line_value 2 n (names_fault list) _ first.1 in
    let short = (or_none (too_long text text_limit) (too_long list list_limit) (or_none (too_long text text_limit || too_long list list_limit) false (when_none wrong 0 first.0)).0).1 in
    (ltb-false list_limit (length list) short, second.0)
