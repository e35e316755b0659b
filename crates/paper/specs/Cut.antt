-- 02, 2026-11: a partner's table, with the original number of each of its nodes, is a sub-document of ours as definition 1.1 of source document 002 means it.
use Rattle.std.specs.Prelude.{ℕ, zero, suc, Bool, true, not, ◌&&◌, ◌||◌, cond, List, eqb, ltb, length, get_or}
use Rattle.paper.specs.Tools.{some_below, column}
use Rattle.paper.specs.Document.{Table, nodes, parent_of, kind_of}
use Rattle.paper.specs.Selection.{child_of}
use Rattle.paper.specs.Extraction.{pick_from}

-- Does every number below n pass the test?
abbrev pub every_below : ℕ → (ℕ → Bool) → Bool
every_below n test = not (some_below n (λ i. not (test i)))

-- Has the node i a child? A leaf has none.
unfoldable pub has_child : Table → ℕ → Bool
has_child t i = some_below (nodes t) (λ j. child_of t i j)

-- Our table is D, the partner's D'; the number of a node of D' says which node of D it is.
module _ (t cut : Table) (numbers : List ℕ) where
  abbrev pub original : ℕ → ℕ
  original r = get_or numbers r 0

  -- (i) D and D' have the same root.
  abbrev pub same_root : Bool
  same_root = eqb (original 0) 0 && eqb (parent_of cut 0) 0

  -- (ii) Each node of D' is a node of D.
  abbrev pub is_node : ℕ → Bool
  is_node r = ltb (original r) (nodes t)

  -- (iii) The parent of each node of D' but the root is a node of D', and stands for the parent of its node.
  abbrev pub parent_stands : ℕ → Bool
  parent_stands zero = true
  parent_stands (suc r) = let p = parent_of cut (suc r) in ltb p (nodes cut) && eqb (original p) (parent_of t (original (suc r)))

  -- (iv) Each kind is the kind of its node.
  abbrev pub same_kind : ℕ → Bool
  same_kind r = eqb (kind_of cut r) (kind_of t (original r))

  -- (v) The order is the same: the numbers rise.
  abbrev pub rising : ℕ → Bool
  rising zero = true
  rising (suc r) = ltb (original r) (original (suc r))

  -- What was removed are sub-trees down to the leaves: each leaf of D' is a leaf of D.
  abbrev pub leaf_stays : ℕ → Bool
  leaf_stays r = has_child cut r || not (has_child t (original r))

  -- A node of D' as it must be.
  unfoldable pub stands : ℕ → Bool
  stands r = is_node r && rising r && same_kind r && parent_stands r && leaf_stays r

  -- Is the partner's table a cut of ours? The empty one is.
  unfoldable pub is_cut : Bool
  is_cut = eqb (nodes cut) 0 || same_root && every_below (nodes cut) stands

-- The marks that a cut stands for: 1 at each number. The empty one stands for all marks 0.
unfoldable pub marks_of : Table → List ℕ → List ℕ
marks_of t numbers = column (nodes t) (λ i. cond (some_below (length numbers) (λ r. eqb (get_or numbers r 0) i)) 1 0)

-- The numbers of the marked nodes, in order: what goes with an extracted table.
unfoldable pub numbers_of : Table → List ℕ → List ℕ
numbers_of t marks = pick_from marks (nodes t) 0 (λ i. i)
