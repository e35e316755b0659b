-- A table and marks with no fault are in document order with closed marks, as the code asks of them; kinds do not matter to that. By what no fault says of each node. Assumes nothing.
use Prim.Native.Nat.{ℕ, zero, suc, ◌<◌}
use native.Mathlib.Omega.{arith}
use mathlib.Core.Path.{◌≡◌, refl, sym, ◌∙◌, ap}
use mathlib.Core.Bool.{◌||◌}
use mathlib.Core.List.{List}
use mathlib.Core.Option.{none}
use lib.Dec.{eqb}
use lib.ListN.{length, get_or}
use Rattle.paper.specs.Document.{climbs, over, table_fault, marks_fault, table_of}
use Rattle.paper.proofs.Trees.{Tree, tree, closed}
use Rattle.paper.proofs.Extracting.{in_order_lem}
use Rattle.extract.specs.Numbering.{shape_of, Ordered}

-- Kinds do not matter to the way up.
over_shape : (parents kinds : List ℕ) (i j : ℕ) → over (table_of parents kinds) i j ≡ over (shape_of parents) i j
unfolding over
over_shape parents kinds i j = go (length parents) i
  where
    go : (far i : ℕ) → climbs (table_of parents kinds) far i j ≡ climbs (shape_of parents) far i j
    go zero i = refl
    go (suc far) i = ap (λ b. eqb i j || b) (go far (get_or parents i 0))

-- What the checks found is what the writing asks.
pub ordered : (parents kinds marks : List ℕ) → table_fault (table_of parents kinds) ≡ none → marks_fault (table_of parents kinds) marks ≡ none → Ordered parents marks
ordered parents kinds marks ft fm =
    let t = table_of parents kinds in
    let w = tree t ft in
    record {
      tree = record { within = omega arith; root = λ z. w.root; falls = λ k z l. w.falls k z l };
      order = λ i l. sym (over_shape parents kinds i (get_or parents (suc i) 0)) ∙ in_order_lem t ft i l;
      closed = closed t marks fm;
    }

-- As a tree it has the laws of trees.
pub shape_tree : (parents marks : List ℕ) → Ordered parents marks → 0 < length parents → Tree (shape_of parents)
shape_tree parents marks o z = record { rooted = z; root = o.tree.root z; falls = o.tree.falls }
