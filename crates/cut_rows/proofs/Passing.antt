-- A table whose rows pass as the code asks of them is a cut, and a cut passes: what passes is in document order, where a child is looked for right behind its parent. Assumes nothing.
use Prim.Native.Nat.{ℕ, ◌+◌, ◌<◌}
use native.Mathlib.Omega.{arith}
use mathlib.Core.Path.{◌≡◌, sym, ◌∙◌, ap₂}
use mathlib.Core.Bool.{true, not, ◌||◌}
use mathlib.Core.List.{List}
use mathlib.Core.Option.{none}
use lib.Dec.{eqb, ltb}
use lib.ListN.{length, get_or}
use borrow.Author.Tests.{eqb-true, eq-eqb, ltb-true, lt-ltb}
use Rattle.paper.specs.Document.{Table, nodes, parent_of, table_fault}
use Rattle.paper.specs.Cut.{has_child, same_root, leaf_stays, is_cut}
use Rattle.paper.proofs.Tests.{and_true, true_and, agree}
use Rattle.paper.proofs.Cutting.{child_intro, child-behind, Standing, standing, yes_rows, rows_yes, yes_stands, cut_good}
use Rattle.cut_row.specs.Rows.{child_behind, row_stands}
use Rattle.cut_row.proofs.Asking.{leaf_asked, asked, leaf_decides}

-- In a table without fault a node has a child exactly if the node behind it is one.
behind_same : (v : Table) → table_fault v ≡ none → (i : ℕ) → i < nodes v → has_child v i ≡ child_behind v.parents i
behind_same v fv i l =
    agree (has_child v i) (child_behind v.parents i)
    (λ h. let b = child-behind v fv i l h in true_and (lt-ltb (i + 1) (nodes v) b.0) (eq-eqb (parent_of v (i + 1)) i b.1))
    (λ h.
    let b = and_true (ltb (i + 1) (nodes v)) (eqb (parent_of v (i + 1)) i) h in
    child_intro v i (i + 1) (omega arith) (ltb-true (i + 1) (nodes v) b.0) (eqb-true (parent_of v (i + 1)) i b.1))

module _ (t cut : Table) (numbers : List ℕ) (ft : table_fault t ≡ none) (long : length numbers ≡ nodes cut) (kinds_long : length cut.kinds ≡ nodes cut) (some_row : 0 < nodes cut) where
  -- Where the rows stand, leaves are asked as they are defined.
  leaf_same : Standing t cut numbers → (r : ℕ) → r < nodes cut → leaf_stays t cut numbers r ≡ leaf_asked t cut numbers r
  leaf_same s r l =
      ap₂ (λ b c. b || not c) (behind_same cut (cut_good t cut numbers ft long s kinds_long some_row) r l) (behind_same t ft (get_or numbers r 0) (s.inside r l))

  -- WHAT PASSES IS A CUT,
  pub all-rows : same_root t cut numbers ≡ true → ((r : ℕ) → r < nodes cut → row_stands t cut numbers r ≡ true) → is_cut t cut numbers ≡ true
  all-rows root all =
      let s = standing t cut numbers root (λ r l. (asked t cut numbers r (all r l)).0) in
      rows_yes t cut numbers root (λ r l. let x = asked t cut numbers r (all r l) in (x.0, leaf_same s r l ∙ x.1))

  -- AND A CUT PASSES.
  pub each_row : is_cut t cut numbers ≡ true → (same_root t cut numbers ≡ true) × ((r : ℕ) → r < nodes cut → row_stands t cut numbers r ≡ true)
  each_row h =
      let y = yes_rows t cut numbers some_row h in
      let s = yes_stands t cut numbers long h in
      (y.0, λ r l. let x = y.1 r l in leaf_decides t cut numbers r x.0 ∙ sym (leaf_same s r l) ∙ x.1)
