-- What a node more and an end more do to the lines so far. By induction over rows of nodes.
-- Assumes nothing.
use Prim.Native.Nat.{ℕ, suc, ◌+◌}
use native.Mathlib.Omega.{arith}
use mathlib.Core.Path.{◌≡◌, refl, sym, ◌∙◌, ap}
use mathlib.Core.List.{List, [], ◌∷◌, ◌++◌, append_assoc, append-nil}
use lib.ListN.{length, length-append}
use Rattle.paper.specs.Xml.{Nodes, nothing, element, chars, beside, Frame, with, count, named, Row, row, rows, table}
use Rattle.xml.specs.Pieces.{added}
use Rattle.xml_lines.specs.Open.{begun, innermost, lines, state_of, so_far, joined}

-- Two rows of nodes beside each other.
pub count_beside : (a b : Nodes) → count (beside a b) ≡ count a + count b
count_beside nothing b = omega arith
count_beside (element name begin end inside rest) b = omega (arith, count_beside rest b)
count_beside (chars begin end rest) b = omega (arith, count_beside rest b)

pub rows_beside : (a b : Nodes) (up n : ℕ) → rows up n (beside a b) ≡ rows up n a ++ rows up (n + count a) b
rows_beside nothing b up n = ap (λ k. rows up k b) (omega arith)
rows_beside (element name begin end inside rest) b up n =
    let m = suc n + count inside in
    let e : m + count rest ≡ n + suc (count inside + count rest) = omega arith in
    ap (λ l. row up (named name) begin end ∷ rows n (suc n) inside ++ l) (rows_beside rest b up m ∙ ap (λ k. rows up m rest ++ rows up k b) e)
    ∙ ap (λ l. row up (named name) begin end ∷ l) (sym (append_assoc (rows n (suc n) inside) (rows up m rest) (rows up (n + suc (count inside + count rest)) b)))
rows_beside (chars begin end rest) b up n =
    let e : suc n + count rest ≡ n + suc (count rest) = omega arith in
    ap (λ l. row up Rattle.paper.specs.Xml.text begin end ∷ l) (rows_beside rest b up (suc n) ∙ ap (λ k. rows up (suc n) rest ++ rows up k b) e)

pub length_rows : (a : Nodes) (up n : ℕ) → length (rows up n a) ≡ count a
length_rows nothing up n = refl
length_rows (element name begin end inside rest) up n =
    omega (arith, length-append (rows n (suc n) inside) (rows up (suc n + count inside) rest), length_rows inside n (suc n), length_rows rest up (suc n + count inside))
length_rows (chars begin end rest) up n = omega (arith, length_rows rest up (suc n))

-- An open element's line with an end, and what is inside it behind it.
abbrev pub ending : ℕ → Frame → List Frame → ℕ → List Row
ending long f fs end = lines long fs ++ (row (innermost fs) (named f.name) f.begin end ∷ rows (begun fs) (suc (begun fs)) f.inside)

pub length_lines : (long : ℕ) (frames : List Frame) → length (lines long frames) ≡ begun frames
length_lines long [] = refl
length_lines long (f ∷ fs) =
    omega (
      arith,
      length-append (lines long fs) (row (innermost fs) (named f.name) f.begin 0 ∷ rows (begun fs) (suc (begun fs)) f.inside),
      length_lines long fs,
      length_rows f.inside (begun fs) (suc (begun fs)),
    )

pub length_ending : (long end : ℕ) (f : Frame) (fs : List Frame) → length (ending long f fs end) ≡ begun (f ∷ fs)
length_ending long end f fs =
    omega (
      arith,
      length-append (lines long fs) (row (innermost fs) (named f.name) f.begin end ∷ rows (begun fs) (suc (begun fs)) f.inside),
      length_lines long fs,
      length_rows f.inside (begun fs) (suc (begun fs)),
    )

-- A node more is a line more, or with what is inside it several.
pub joined_lines : (long : ℕ) (node : Nodes) (frames : List Frame) → so_far long (joined node frames) ≡ lines long frames ++ rows (innermost frames) (begun frames) node
joined_lines long node [] = refl
joined_lines long node (f ∷ fs) =
    let own = row (innermost fs) (named f.name) f.begin 0 in
    let inside = rows (begun fs) (suc (begun fs)) f.inside in
    let more = rows (begun fs) (suc (begun fs) + count f.inside) node in
    ap (λ l. lines long fs ++ (own ∷ l)) (rows_beside f.inside node (begun fs) (suc (begun fs))) ∙ sym (append_assoc (lines long fs) (own ∷ inside) more)

pub joined_state : (node : Nodes) (frames : List Frame) → added node frames ≡ state_of (joined node frames)
joined_state node [] = refl
joined_state node (f ∷ fs) = refl

-- An element's end is told.
pub closed_lines : (long end : ℕ) (f : Frame) (fs : List Frame) → so_far long (joined (element f.name f.begin end f.inside nothing) fs) ≡ ending long f fs end
closed_lines long end f fs =
    joined_lines long (element f.name f.begin end f.inside nothing) fs
    ∙ ap (λ l. lines long fs ++ (row (innermost fs) (named f.name) f.begin end ∷ l)) (append-nil (rows (begun fs) (suc (begun fs)) f.inside))
