-- The name of an element is found in the text behind its `<`. Assumes nothing.
use Prim.Native.Nat.{ℕ, ◌+◌, ◌-◌, ◌≤◌, ◌<◌}
use native.Mathlib.Omega.{arith}
use native.Mathlib.Numerals.{add-one}
use mathlib.Core.Path.{◌≡◌, ◌∙◌, ap}
use mathlib.Core.List.{List}
use lib.ListN.{length, take, drop, length-drop}
use Rattle.paper.specs.Tools.{run_of}
use Rattle.paper.specs.Names.{name_part}
use Rattle.paper.proofs.Lexing.{run_within}
use Rattle.file_theorems.proofs.Bounds.{take_short}
use Rattle.put_tags.specs.Tags.{name_at}

-- A NAME in the text: the bytes from behind the `<` to where no name goes on.
pub name_within : (text : List ℕ) (begin to : ℕ) → begin < length text → to ≡ begin + 1 + run_of name_part (drop (begin + 1) text) → to ≤ length text
name_within text begin to l e = omega (arith, run_within name_part (drop (begin + 1) text), length-drop (begin + 1) text)

pub name_is : (text : List ℕ) (begin to : ℕ) → to ≡ begin + 1 + run_of name_part (drop (begin + 1) text) → take (to - (begin + 1)) (drop (begin + 1) text) ≡ name_at text begin
name_is text begin to e = ap (λ n. take (n - (begin + 1)) (drop (begin + 1) text)) e ∙ ap (λ n. take (n + run_of name_part (drop n text) - n) (drop n text)) (add-one begin)

pub name_short : (text : List ℕ) (n from : ℕ) → length (take n (drop from text)) ≤ length text
name_short text n from = omega (arith, take_short n (drop from text), length-drop from text)
