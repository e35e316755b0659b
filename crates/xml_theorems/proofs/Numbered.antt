-- The lines of a table by number: each part of the tree stands in the table as lines in a row, from its first number on.
-- By induction over the nodes: what a claim says of an element, of what is inside it and of what follows it. Assumes nothing.
use Prim.Native.Nat.{ℕ, suc, ◌+◌, ◌<◌, ◌≤◌}
use native.Mathlib.Omega.{arith}
use native.Mathlib.Nat.{add-zero}
use native.Mathlib.Decide.{ℕ_discrete, dec_lt}
use mathlib.Core.Path.{◌≡◌, refl, sym, ◌∙◌, ap}
use mathlib.Core.List.{List, [], ◌∷◌, ◌++◌}
use mathlib.Core.Logic.{by_cases}
use lib.ListN.{length, length-append, get_or-append}
use Rattle.paper.specs.Xml.{Nodes, nothing, element, chars, What, Row, row, rows, count}
use Rattle.xml_theorems.specs.Tables.{line_at}

pub length_rows : (up n : ℕ) (nodes : Nodes) → length (rows up n nodes) ≡ count nodes
length_rows up n nothing = refl
length_rows up n (element name begin end inside rest) =
    let a = length-append (rows n (suc n) inside) (rows up (suc n + count inside) rest) in
    omega (arith, a, length_rows n (suc n) inside, length_rows up (suc n + count inside) rest)
length_rows up n (chars begin end rest) = ap suc (length_rows up (suc n) rest)

line_right : (xs ys : List Row) (k : ℕ) → line_at (xs ++ ys) (length xs + k) ≡ line_at ys k
line_right [] ys k = ap (line_at ys) (omega arith)
line_right (x ∷ xs) ys k =
    let e : suc (length xs) + k ≡ suc (length xs + k) = omega arith in
    ap (line_at (x ∷ xs ++ ys)) e ∙ line_right xs ys k

module _ (lines : List Row) where
  -- These lines stand in the table from number n on.
  abbrev pub Stand : ℕ → List Row → Type 0
  Stand n part = (k : ℕ) → k < length part → line_at lines (n + k) ≡ line_at part k

  stand_first : (n : ℕ) (r : Row) (part : List Row) → Stand n (r ∷ part) → line_at lines n ≡ r
  stand_first n r part h = ap (line_at lines) (sym (add-zero n)) ∙ h 0 (omega arith)

  stand_later : (n : ℕ) (r : Row) (part : List Row) → Stand n (r ∷ part) → Stand (suc n) part
  stand_later n r part h k l =
      let e : suc n + k ≡ n + suc k = omega arith in
      ap (line_at lines) e ∙ h (suc k) (omega arith)

  stand_left : (n : ℕ) (a b : List Row) → Stand n (a ++ b) → Stand n a
  stand_left n a b h k l = h k (omega (arith, length-append a b)) ∙ get_or-append a b (row 0 What.root 0 0) k l

  stand_right : (n m : ℕ) (a b : List Row) → length a ≡ m → Stand n (a ++ b) → Stand (n + m) b
  stand_right n m a b e h k l =
      let s : n + m + k ≡ n + (length a + k) = omega (arith, e) in
      ap (line_at lines) s ∙ h (length a + k) (omega (arith, length-append a b)) ∙ line_right a b k

  -- An element, what is inside it, and what follows it.
  module _ (up n : ℕ) (name : List ℕ) (begin end : ℕ) (inside rest : Nodes) (h : Stand n (rows up n (element name begin end inside rest))) where
    pub stand_element : line_at lines n ≡ row up (What.named name) begin end
    stand_element = stand_first n (row up (What.named name) begin end) (rows n (suc n) inside ++ rows up (suc n + count inside) rest) h

    pub stand_inside : Stand (suc n) (rows n (suc n) inside)
    stand_inside =
        stand_left (suc n) (rows n (suc n) inside) (rows up (suc n + count inside) rest)
        (stand_later n (row up (What.named name) begin end) (rows n (suc n) inside ++ rows up (suc n + count inside) rest) h)

    pub stand_rest : Stand (suc n + count inside) (rows up (suc n + count inside) rest)
    stand_rest =
        stand_right (suc n) (count inside) (rows n (suc n) inside) (rows up (suc n + count inside) rest) (length_rows n (suc n) inside)
        (stand_later n (row up (What.named name) begin end) (rows n (suc n) inside ++ rows up (suc n + count inside) rest) h)

  module _ (up n begin end : ℕ) (rest : Nodes) (h : Stand n (rows up n (chars begin end rest))) where
    pub stand_chars : line_at lines n ≡ row up What.text begin end
    stand_chars = stand_first n (row up What.text begin end) (rows up (suc n) rest) h

    pub stand_behind : Stand (suc n) (rows up (suc n) rest)
    stand_behind = stand_later n (row up What.text begin end) (rows up (suc n) rest) h

-- The numbers of an element and its row: its own, one of those inside it, or one of those behind it.
pub three {ℓ} : {C : Type ℓ} (n m k i : ℕ) → n ≤ i → i < n + suc (m + k) → (i ≡ n → C) → (suc n ≤ i → i < suc n + m → C) → (suc n + m ≤ i → i < suc n + m + k → C) → C
three n m k i a l own within behind =
    by_cases (ℕ_discrete i n) own (λ e. by_cases (dec_lt i (suc n + m)) (λ f. within (omega arith) f) (λ f. behind (omega arith) (omega arith)))

pub two {ℓ} : {C : Type ℓ} (n k i : ℕ) → n ≤ i → i < n + suc k → (i ≡ n → C) → (suc n ≤ i → i < suc n + k → C) → C
two n k i a l own behind = by_cases (ℕ_discrete i n) own (λ e. behind (omega arith) (omega arith))
