-- Line 10 and the file: with no room the bytes are counted, with room enough they stand there. By what putting promises. Assumes nothing.
use Prim.Native.Nat.{ℕ, ◌≤◌, ◌<◌}
use native.Mathlib.Omega.{arith}
use mathlib.Core.Path.{◌≡◌, sym, ◌∙◌, ap}
use mathlib.Core.List.{List, [], ◌++◌}
use borrow.Author.Tests.{lt-ltb, le-ltb}
use lib.ListN.{length}
use Rattle.paper.specs.Tools.{when}
use Rattle.paper.specs.Answers.{value, refusal, line}
use Rattle.pen.specs.Putting.{Puts}
use Rattle.pen.proofs.Room.{puts_written, puts_nothing}
use Rattle.kept_file.specs.Filing.{Filed}

-- With no room the bytes are counted, and the lent ones stay as they were.
counted : (bytes none : List ℕ) (needed : ℕ) → Puts bytes 0 [] none needed → needed ≡ length bytes
counted bytes none needed p = omega (arith, p.moved)

untouched : (bytes none old : List ℕ) (needed : ℕ) → Puts bytes 0 [] none needed → none ++ old ≡ old
untouched bytes none old needed p = ap (λ x. x ++ old) (puts_nothing bytes none 0 needed p)

-- The bytes are too many,
pub lacking : (bytes none old : List ℕ) (needed : ℕ) → Puts bytes 0 [] none needed → length (none ++ old) < needed → Filed bytes old (none ++ old) (refusal 10 needed)
lacking bytes none old needed p l =
    let same = untouched bytes none old needed p in
    let short : length old < length bytes = omega (arith, p.moved, ap length same, l) in
    record {
      says = ap (refusal 10) (counted bytes none needed p) ∙ sym (ap (λ b. line 10 (when b (length bytes)) (value (length bytes))) (lt-ltb (length old) (length bytes) short));
      leaves = same;
    }

-- or they are written.
pub wrote : (bytes none old new : List ℕ) (needed next : ℕ) → Puts bytes 0 [] none needed → Puts bytes 0 (none ++ old) new next → needed ≤ length (none ++ old) → Filed bytes old new (value needed)
wrote bytes none old new needed next p q l =
    let same = untouched bytes none old needed p in
    let enough : length bytes ≤ length old = omega (arith, p.moved, ap length same, l) in
    record {
      says = ap value (counted bytes none needed p) ∙ sym (ap (λ b. line 10 (when b (length bytes)) (value (length bytes))) (le-ltb (length old) (length bytes) enough));
      leaves = puts_written bytes old new next (rw same at q) enough;
    }
