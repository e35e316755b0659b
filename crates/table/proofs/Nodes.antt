-- A node after the root is good if its kind fits and its parent is good, by computing the definition; in a table with no fault every parent is a node. Assumes nothing.
use Prim.Native.Nat.{ℕ, zero, suc, ◌-◌, ◌<◌}
use native.Mathlib.Omega.{arith}
use mathlib.Core.Path.{◌≡◌, refl, ◌∙◌, ap}
use mathlib.Core.Bool.{Bool, true, false, not, ◌&&◌}
use mathlib.Core.List.{List}
use mathlib.Core.Option.{none}
use lib.Dec.{eqb}
use Rattle.paper.specs.Document.{Table, parent_of, kind_of, over, good_node, table_fault, table_of}
use Rattle.paper.proofs.Trees.{tree, parent_le}
use Rattle.table.specs.Passing.{fits_kind, good_parent, Inside}

regrouped : (a b c : Bool) → (a && b && c) ≡ (a && (b && c))
regrouped true b c = refl
regrouped false b c = refl

pub later : (t : Table) (i : ℕ) → 0 < i → good_node t i ≡ (fits_kind (kind_of t i) && good_parent t i)
unfolding good_node
later t zero z = absurd (omega arith)
later t (suc i) z =
    let e : i ≡ suc i - 1 = omega arith in
    let p = parent_of t (suc i) in
    let k = kind_of t (suc i) in
    ap (λ h. fits_kind k && over t h p && not (eqb (kind_of t p) 1)) e
    ∙ regrouped (fits_kind k) (over t (suc i - 1) p) (not (eqb (kind_of t p) 1))

pub inside : (parents kinds : List ℕ) → table_fault (table_of parents kinds) ≡ none → Inside parents
inside parents kinds sound k l = let t = table_of parents kinds in omega (arith, parent_le t (tree t sound) k l)
