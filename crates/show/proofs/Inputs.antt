-- What the first line says of an input. By its length. Assumes nothing.
use Prim.Native.Nat.{ℕ, ◌≤◌, ◌<◌}
use mathlib.Core.Path.{◌≡◌}
use mathlib.Core.List.{List}
use lib.ListN.{length}
use borrow.Author.Tests.{lt-ltb, le-ltb}
use Rattle.paper.specs.Answers.{value, refusal}
use Rattle.paper.specs.Show.{show_limit, shown_input}

-- An input too long, and one that is not.
pub input_long : (input : List ℕ) → show_limit < length input → refusal 1 0 ≡ shown_input input
input_long input l = rw (lt-ltb show_limit (length input) l)

pub input_taken : (input : List ℕ) → length input ≤ show_limit → value (length input) ≡ shown_input input
input_taken input l = rw (le-ltb show_limit (length input) l)
