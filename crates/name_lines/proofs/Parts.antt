-- What the kept starts say of a line: it lies within the list, and it says what the paper's line says. Assumes nothing.
use Prim.Native.Nat.{ℕ, ◌+◌, ◌≤◌, ◌<◌}
use native.Mathlib.Omega.{arith}
use mathlib.Core.Path.{◌≡◌, subst}
use mathlib.Core.Bool.{Bool}
use mathlib.Core.List.{List}
use lib.ListN.{length}
use Rattle.paper.specs.Tools.{same}
use Rattle.name_lines.specs.declared.Part.{Part}
use Rattle.name_lines.specs.Lines.{Rising, part_of, bytes_of, said}

-- A line lies within the list.
pub part_room : {list starts : List ℕ} {count : ℕ} → Rising list starts count → (v : ℕ) → v < count → (p : Part) → p ≡ part_of starts v → p.start + p.len ≤ length list
part_room rising v inside p line = rw line (omega (arith, rising.rises v inside, rising.within v inside))

-- A test of the part is a test of what the line says.
pub part_test : (list starts word : List ℕ) (v : ℕ) {p : Part} {b : Bool} → p ≡ part_of starts v → same (bytes_of list p) word ≡ b → same (said list starts v) word ≡ b
part_test list starts word v {b = b} line h = subst (λ q. same (bytes_of list q) word ≡ b) line h
