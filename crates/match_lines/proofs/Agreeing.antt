-- Lines that agree with columns: one line more, one end told, and that the lines of a whole table which agree are the columns. Assumes nothing.
use Prim.Native.Nat.{ℕ, suc, ◌+◌, ◌<◌}
use native.Mathlib.Omega.{arith}
use mathlib.Core.Path.{◌≡◌, refl, sym, ◌∙◌, ap, subst}
use mathlib.Core.Bool.{Bool, true, false, ◌&&◌, false≢true}
use mathlib.Core.List.{List, [], ◌∷◌, ◌++◌, append_assoc, append-nil}
use lib.ListN.{length, get_or, length-append}
use Rattle.paper.specs.Xml.{Nodes, nothing, element, Frame, named, Row, row, rows, count}
use Rattle.xml_lines.specs.Kept.{Columns}
use Rattle.xml_lines.specs.Open.{begun, innermost, joined}
use Rattle.xml_lines.proofs.Opened.{rows_beside, length_rows}
use Rattle.match_lines.specs.Lines.{LineIs, Agree, told, told_at}
use Rattle.line_tests.specs.Telling.{Tells, Has}
use Rattle.match_lines.specs.Compared.{Compares}

-- LINES SO FAR. How many they are, with a node more, and with an end told.
pub told_length : (long : ℕ) (ends : List ℕ) (frames : List Frame) → length (told long ends frames) ≡ begun frames
told_length long ends [] = refl
told_length long ends (f ∷ fs) =
    omega (
      arith,
      length-append (told long ends fs) (row (innermost fs) (named f.name) f.begin (get_or ends (begun fs) 0) ∷ rows (begun fs) (suc (begun fs)) f.inside),
      told_length long ends fs,
      length_rows f.inside (begun fs) (suc (begun fs)),
    )

pub told_joined : (long : ℕ) (ends : List ℕ) (node : Nodes) (frames : List Frame) → told_at long ends (joined node frames) ≡ told long ends frames ++ rows (innermost frames) (begun frames) node
told_joined long ends node [] = refl
told_joined long ends node (f ∷ fs) =
    let own = row (innermost fs) (named f.name) f.begin (get_or ends (begun fs) 0) in
    let inside = rows (begun fs) (suc (begun fs)) f.inside in
    let more = rows (begun fs) (suc (begun fs) + count f.inside) node in
    ap (λ l. told long ends fs ++ (own ∷ l)) (rows_beside f.inside node (begun fs) (suc (begun fs))) ∙ sym (append_assoc (told long ends fs) (own ∷ inside) more)

-- An element's line with what is inside it behind it.
abbrev ended : ℕ → List ℕ → Frame → List Frame → ℕ → List Row
ended long ends f fs end = told long ends fs ++ (row (innermost fs) (named f.name) f.begin end ∷ rows (begun fs) (suc (begun fs)) f.inside)

pub told_closed : (long : ℕ) (ends : List ℕ) (end : ℕ) (f : Frame) (fs : List Frame)
    → told_at long ends (joined (element f.name f.begin end f.inside nothing) fs) ≡ ended long ends f fs end
told_closed long ends end f fs =
    told_joined long ends (element f.name f.begin end f.inside nothing) fs
    ∙ ap (λ l. told long ends fs ++ (row (innermost fs) (named f.name) f.begin end ∷ l)) (append-nil (rows (begun fs) (suc (begun fs)) f.inside))

module _ (list : List ℕ) (cols : Columns) where
  -- Lines one after the other.
  pub agree_then : (n : ℕ) (xs ys : List Row) → Agree list cols n xs → Agree list cols (n + length xs) ys → Agree list cols n (xs ++ ys)
  agree_then n [] ys a b = subst (λ k. Agree list cols k ys) (omega arith) b
  agree_then n (x ∷ xs) ys a b = (a.0, agree_then (suc n) xs ys a.1 (subst (λ k. Agree list cols k ys) (omega arith) b))

  pub agree_first : (n : ℕ) (xs ys : List Row) → Agree list cols n (xs ++ ys) → Agree list cols n xs
  agree_first n [] ys a = tt
  agree_first n (x ∷ xs) ys a = (a.0, agree_first (suc n) xs ys a.1)

  pub agree_last : (n : ℕ) (xs ys : List Row) → Agree list cols n (xs ++ ys) → Agree list cols (n + length xs) ys
  agree_last n [] ys a = subst (λ k. Agree list cols k ys) (omega arith) a
  agree_last n (x ∷ xs) ys a = subst (λ k. Agree list cols k ys) (omega arith) (agree_last (suc n) xs ys a.1)

  -- COMPARING. One line more, of which a test tells whether the columns have it.
  pub more_compares : (rows : List Row) (number inner : ℕ) (same : Bool) → Compares list cols rows number same inner → (next : List Row) (r : Row) → next ≡ rows ++ (r ∷ []) → (check : Bool) (n : ℕ) → n ≡ length rows
      → (inner ≡ number → Tells check (LineIs list cols n r)) → (number' inner' : ℕ) → (inner ≡ number → inner' ≡ number') → Compares list cols next number' (same && check) inner'
  more_compares rows number inner true h next r e check n l tells number' inner' leads =
      let (agrees, known) = h.yes refl in
      let at : 0 + length rows ≡ n = omega arith in
      record {
        yes = λ c. (subst (Agree list cols 0) (sym e) (agree_then 0 rows (r ∷ []) agrees (subst (λ k. Agree list cols k (r ∷ [])) (sym at) ((tells known).0 c, tt))), leads known);
        no = λ c a. (tells known).1 c (subst (λ k. Agree list cols k (r ∷ [])) at (agree_last 0 rows (r ∷ []) (subst (Agree list cols 0) e a))).0;
      }
  more_compares rows number inner false h next r e check n l tells number' inner' leads =
      record { yes = λ c. absurd (false≢true c); no = λ c a. h.no refl (agree_first 0 rows (r ∷ []) (subst (Agree list cols 0) e a)) }

  -- An end told.
  module _ (long : ℕ) (f : Frame) (fs : List Frame) (end : ℕ) where
    -- Lines that agree with the end told have it in the column.
    end_said : Agree list cols 0 (ended long cols.ends f fs end) → get_or cols.ends (begun fs) 0 ≡ end
    end_said a =
        let own = row (innermost fs) (named f.name) f.begin end in
        let at : 0 + length (told long cols.ends fs) ≡ begun fs = omega (arith, told_length long cols.ends fs) in
        (subst (λ k. Agree list cols k (own ∷ rows (begun fs) (suc (begun fs)) f.inside)) at (agree_last 0 (told long cols.ends fs) (own ∷ rows (begun fs) (suc (begun fs)) f.inside) a)).0.end.1

    pub end_compares : (inner : ℕ) (same : Bool) → Compares list cols (told long cols.ends (f ∷ fs)) (begun fs) same inner → (next : List Row) → next ≡ ended long cols.ends f fs end → (check : Bool)
        → Tells check (Has cols.ends inner end) → (number' inner' : ℕ) → (inner ≡ begun fs → begun fs < length cols.parents → get_or cols.parents (begun fs) 0 ≡ innermost fs → inner' ≡ number') → length cols.ends ≡ length cols.parents
        → Compares list cols next number' (same && check) inner'
    end_compares inner true h next e check tells number' inner' leads long-ends =
        let (agrees, known) = h.yes refl in
        let own = row (innermost fs) (named f.name) f.begin (get_or cols.ends (begun fs) 0) in
        let at : 0 + length (told long cols.ends fs) ≡ begun fs = omega (arith, told_length long cols.ends fs) in
        let line = (subst (λ k. Agree list cols k (own ∷ rows (begun fs) (suc (begun fs)) f.inside)) at (agree_last 0 (told long cols.ends fs) (own ∷ rows (begun fs) (suc (begun fs)) f.inside) agrees)).0 in
        record {
          yes =
              λ c.
              let there : get_or cols.ends (begun fs) 0 ≡ end = ap (λ k. get_or cols.ends k 0) (sym known) ∙ (tells.0 c).1 in
              (subst (Agree list cols 0) (ap (ended long cols.ends f fs) there ∙ sym e) agrees, leads known line.parent.0 line.parent.1);
          no = λ c a. tells.1 c (omega (arith, known, line.parent.0, long-ends), ap (λ k. get_or cols.ends k 0) known ∙ end_said (subst (Agree list cols 0) e a));
        }
    end_compares inner false h next e check tells number' inner' leads long-ends =
        record {
          yes = λ c. absurd (false≢true c);
          no = λ c a. h.no refl (subst (Agree list cols 0) (ap (ended long cols.ends f fs) (sym (end_said (subst (Agree list cols 0) e a)))) (subst (Agree list cols 0) e a));
        }
