-- Places tell who is over whom: a node's place holds those of the nodes below it, and the places of later nodes begin past its end.
-- By induction over the nodes, and by climbing. Assumes nothing.
use Prim.Native.Nat.{ℕ, suc, ◌+◌, ◌<◌, ◌≤◌}
use native.Mathlib.Omega.{arith}
use native.Mathlib.Decide.{ℕ_discrete}
use mathlib.Core.Path.{◌≡◌, ◌∙◌, ap}
use mathlib.Core.Bool.{true}
use mathlib.Core.List.{List, map}
use mathlib.Core.Logic.{◌⊎◌, inl, inr, ⊎_elim, by_cases}
use lib.ListN.{length, length-map}
use Rattle.paper.specs.Document.{Table, nodes, table_of, parent_of, over}
use Rattle.paper.specs.Xml.{Nodes, nothing, element, chars, Row, rows, table, count}
use Rattle.paper.specs.Answers.{parent_field}
use Rattle.paper.proofs.Trees.{Tree, climb, over-cases, over_root}
use Rattle.xml_theorems.specs.Tables.{Nested, line_at, PlacesTell}
use Rattle.xml_theorems.proofs.Nesting.{tree_nests}
use Rattle.xml_theorems.proofs.Numbered.{Stand, stand_element, stand_inside, stand_rest, stand_chars, stand_behind, three, two}
use Rattle.xml_theorems.proofs.Placed.{placed, stand_table, length_table, places_nest}
use Rattle.xml_theorems.proofs.Tabled.{under, parent_column, column_tree}

module _ (lines : List Row) (t : Table) (w : Tree t) (says : (i : ℕ) → parent_of t i ≡ (line_at lines i).parent) where
  -- A later node is below an earlier one, or begins at or past its end.
  below_or_past : (ns : Nodes) (up n low high : ℕ) → Stand lines n (rows up n ns) → Nested low high ns → up < n → n + count ns ≤ nodes t
      → (i j : ℕ) → n ≤ i → i < j → j < n + count ns → (over t j i ≡ true) ⊎ ((line_at lines i).end ≤ (line_at lines j).begin)
  below_or_past nothing up n low high h g u s i j a o l = absurd (omega arith)
  below_or_past (element name begin end inside rest) up n low high h g u s i j a o l =
      let here = stand_element lines up n name begin end inside rest h in
      let si = stand_inside lines up n name begin end inside rest h in
      let sr = stand_rest lines up n name begin end inside rest h in
      let m = suc n + count inside in
      three n (count inside) (count rest) i a (omega arith)
      (λ e.
      let f : (line_at lines i).end ≡ end = ap (λ k. (line_at lines k).end) e ∙ ap (λ (r : Row). r.end) here in
      three n (count inside) (count rest) j (omega arith) l (λ d. absurd (omega arith))
      (λ c k. inl (ap (over t j) e ∙ under lines t w says inside n (suc n) si (omega arith) (omega arith) j c k))
      (λ c k. inr (omega (arith, (placed lines rest up m end high sr g.3 j c k).0))))
      (λ c k.
      three n (count inside) (count rest) j (omega arith) l (λ d. absurd (omega arith))
      (λ c' k'. below_or_past inside n (suc n) (suc begin) end si g.2 (omega arith) (omega arith) i j c o k')
      (λ c' k'. inr (omega (arith, (placed lines inside n (suc n) (suc begin) end si g.2 i c k).2, (placed lines rest up m end high sr g.3 j c' k').0))))
      (λ c k. below_or_past rest up m end high sr g.3 (omega arith) (omega arith) i j c o (omega arith))
  below_or_past (chars begin end rest) up n low high h g u s i j a o l =
      let sr = stand_behind lines up n begin end rest h in
      two n (count rest) i a (omega arith)
      (λ e.
      let f : (line_at lines i).end ≡ end = ap (λ k. (line_at lines k).end) e ∙ ap (λ (r : Row). r.end) (stand_chars lines up n begin end rest h) in
      inr (omega (arith, (placed lines rest up (suc n) end high sr g.2 j (omega arith) (omega arith)).0)))
      (λ c k. below_or_past rest up (suc n) end high sr g.2 (omega arith) (omega arith) i j c o (omega arith))

pub places_tell : PlacesTell
places_tell text tree h kinds i j o l =
    let lines = table (length text) tree in
    let t = table_of (map parent_field lines) kinds in
    let w = column_tree (length text) tree kinds in
    let says = parent_column (length text) tree kinds in
    let many : nodes t ≡ length lines = length-map lines parent_field in (
      climb t w (λ k. over t k i ≡ true → (line_at lines k).end ≤ (line_at lines i).end)
          (λ k on up g.
          over-cases t w k i on g (λ e. omega (arith, ap (λ x. (line_at lines x).end) e))
          (λ z' p. omega (arith, up z' p, ap (λ x. (line_at lines x).end) (says k), (places_nest text tree h k (omega (arith, many))).ends)))
          j (omega (arith, many)),
      λ g.
          by_cases (ℕ_discrete i 0) (λ e. ap (over t j) e ∙ over_root t w j (omega (arith, many)))
          (λ e.
          ⊎_elim (λ p. p) (λ p. absurd (omega (arith, p, g, (places_nest text tree h j l).filled)))
          (below_or_past lines t w says tree 0 1 0 (length text) (stand_table (length text) tree) (tree_nests text tree h) (omega arith)
          (omega (arith, many, length_table (length text) tree)) i j (omega arith) o (omega (arith, length_table (length text) tree)))),
    )
