-- A row as the code asks of it, in its order: leaves apart the tests are the definition's. Assumes nothing.
use Prim.Native.Nat.{ℕ, zero, suc, ◌-◌, ◌≤◌, ◌<◌}
use native.Mathlib.Omega.{arith}
use mathlib.Core.Path.{◌≡◌, refl, sym, ◌∙◌, ap, ap₂}
use mathlib.Core.Bool.{Bool, true, false, not, ◌&&◌, ◌||◌}
use mathlib.Core.List.{List}
use lib.Dec.{eqb, ltb}
use lib.ListN.{get_or}
use borrow.Author.Tests.{lt-ltb, le-ltb}
use Rattle.paper.specs.Document.{Table, nodes, parent_of}
use Rattle.paper.specs.Cut.{is_node, parent_stands, same_kind, rising}
use Rattle.paper.proofs.Tests.{and_true}
use Rattle.paper.proofs.Cutting.{Row}
use Rattle.cut_row.specs.Rows.{child_behind, row_stands}

and_no : (b : Bool) → (b && false) ≡ false
and_no true = refl
and_no false = refl

-- A test that cannot hold fails.
pub fails : (b : Bool) → (b ≡ true → ⊥) → false ≡ b
fails true h = absurd (h refl)
fails false h = refl

module _ (t cut : Table) (numbers : List ℕ) where
  -- What the code asks of a row's leaves.
  abbrev pub leaf_asked : ℕ → Bool
  leaf_asked r = child_behind cut.parents r || not (child_behind t.parents (get_or numbers r 0))

  pub asked : (r : ℕ) → row_stands t cut numbers r ≡ true → Row t cut numbers r × (leaf_asked r ≡ true)
  unfolding row_stands
  asked r h =
      let a = is_node t cut numbers r in
      let b = same_kind t cut numbers r in
      let c = rising t cut numbers r in
      let d = parent_stands t cut numbers r in
      let one = and_true a (b && ((c && d) && leaf_asked r)) h in
      let two = and_true b ((c && d) && leaf_asked r) one.1 in
      let three = and_true (c && d) (leaf_asked r) two.1 in
      let four = and_true c d three.0 in
      (record { node = one.0; later = four.0; kind = two.0; parent = four.1 }, three.1)

  -- Where all else is right, the leaf decides.
  pub leaf_decides : (r : ℕ) → Row t cut numbers r → row_stands t cut numbers r ≡ leaf_asked r
  unfolding row_stands
  leaf_decides r x = rw (x.node, x.kind, x.later, x.parent)

-- A row after the first, of number n and with the parent p, by the row before it.
module _ (t cut : Table) (numbers : List ℕ) (r n p : ℕ) (z : 0 < r) (own : n ≡ get_or numbers r 0) (up : p ≡ parent_of cut r) where
  later_row : (rising t cut numbers r && parent_stands t cut numbers r)
      ≡ (ltb (get_or numbers (r - 1) 0) n && (ltb p (nodes cut) && eqb (get_or numbers p 0) (parent_of t n)))
  later_row = go r z ∙ ap₂ (λ m q. ltb (get_or numbers (r - 1) 0) m && (ltb q (nodes cut) && eqb (get_or numbers q 0) (parent_of t m))) (sym own) (sym up)
    where
      go : (r : ℕ) → 0 < r
          → (rising t cut numbers r && parent_stands t cut numbers r)
          ≡ (ltb (get_or numbers (r - 1) 0) (get_or numbers r 0) && (ltb (parent_of cut r) (nodes cut) && eqb (get_or numbers (parent_of cut r) 0) (parent_of t (get_or numbers r 0))))
      go zero z = absurd (omega arith)
      go (suc r) z =
          let e : r ≡ suc r - 1 = omega arith in
          ap (λ k. ltb (get_or numbers k 0) (get_or numbers (suc r) 0) && parent_stands t cut numbers (suc r)) e

  pub within : p < nodes cut → (rising t cut numbers r && parent_stands t cut numbers r) ≡ (ltb (get_or numbers (r - 1) 0) n && eqb (get_or numbers p 0) (parent_of t n))
  within l = later_row ∙ ap (λ b. ltb (get_or numbers (r - 1) 0) n && (b && eqb (get_or numbers p 0) (parent_of t n))) (lt-ltb p (nodes cut) l)

  pub outside : nodes cut ≤ p → (rising t cut numbers r && parent_stands t cut numbers r) ≡ false
  outside l = later_row ∙ ap (λ b. ltb (get_or numbers (r - 1) 0) n && (b && eqb (get_or numbers p 0) (parent_of t n))) (le-ltb p (nodes cut) l) ∙ and_no (ltb (get_or numbers (r - 1) 0) n)
