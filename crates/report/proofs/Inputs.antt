-- What the first line says of an input. By its length. Assumes nothing.
use Prim.Native.Nat.{ℕ, ◌≤◌, ◌<◌}
use mathlib.Core.Path.{◌≡◌}
use mathlib.Core.List.{List}
use lib.ListN.{length}
use borrow.Author.Tests.{lt-ltb, le-ltb}
use Rattle.paper.specs.Answers.{value, refusal}
use Rattle.paper.specs.Program.{input_limit, input_answer}

-- An input too long, and one that is not.
pub input_long : (input : List ℕ) → input_limit < length input → refusal 1 0 ≡ input_answer input
input_long input l = rw (lt-ltb input_limit (length input) l)

pub input_taken : (input : List ℕ) → length input ≤ input_limit → value (length input) ≡ input_answer input
input_taken input l = rw (le-ltb input_limit (length input) l)
