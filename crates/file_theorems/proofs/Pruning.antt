-- The extracted table of marks is the table of the marked nodes of the tree.
-- The marked lines, their parents renumbered, are the lines of the pruned tree: by induction over the nodes, where nothing inside an unmarked element is marked. Assumes nothing.
use Prim.Native.Nat.{ℕ, zero, suc, ◌+◌, ◌<◌, ◌≤◌}
use native.Mathlib.Omega.{arith}
use native.Mathlib.Nat.{add-zero}
use mathlib.Core.Path.{◌≡◌, refl, sym, ◌∙◌, ap, ap₂}
use mathlib.Core.Bool.{true, false, cond, false≢true}
use mathlib.Core.List.{List, [], ◌∷◌, ◌++◌, map}
use mathlib.Core.Logic.{⊎_elim}
use lib.ListN.{length, length-map, get_or-map}
use Rattle.paper.specs.Document.{nodes, table_of, parent_of, kind_of, marked}
use Rattle.paper.specs.Extraction.{rank, pick_from, extracted}
use Rattle.paper.specs.Xml.{Nodes, nothing, element, chars, What, Row, row, rows, table, count}
use Rattle.paper.specs.WriteXml.{pruned}
use Rattle.paper.specs.Answers.{parent_field, kind_field}
use Rattle.paper.proofs.Tests.{decide}
use Rattle.paper.proofs.Extracting.{rank_marked, rank_unmarked, rank_mono}
use Rattle.paper.proofs.Trees.{Closed}
use Rattle.xml_theorems.specs.Tables.{line_at}
use Rattle.xml_theorems.proofs.Numbered.{length_rows, Stand, stand_element, stand_inside, stand_rest, stand_chars, stand_behind}
use Rattle.xml_theorems.proofs.Placed.{stand_table, length_table}
use Rattle.xml_theorems.proofs.Tabled.{parent_column}
use Rattle.file_theorems.specs.Files.{columns_of}

module _ (marks : List ℕ) where
  -- A line under its new parent's number.
  abbrev pub renumbered : Row → Row
  renumbered r = row (rank marks r.parent) r.what r.begin r.end

  -- The lines of the marked nodes, where the first has number n.
  abbrev pub picks : ℕ → List Row → List Row
  picks n [] = []
  picks n (r ∷ rs) = cond (marked marks n) (renumbered r ∷ picks (suc n) rs) (picks (suc n) rs)

  picks_then : (xs ys : List Row) (n m : ℕ) → m ≡ n + length xs → picks n (xs ++ ys) ≡ picks n xs ++ picks m ys
  picks_then [] ys n m e = ap (λ k. picks k ys) (sym (e ∙ add-zero n))
  picks_then (x ∷ xs) ys n m e =
      let more = picks_then xs ys (suc n) m (omega arith) in
      ⊎_elim (λ (h : marked marks n ≡ true). rw h (ap (λ (l : List Row). renumbered x ∷ l) more)) (λ (h : marked marks n ≡ false). rw h more) (decide (marked marks n))

  -- Nothing inside an unmarked element is marked.
  abbrev pub Shut : ℕ → Nodes → Type 0
  Shut n nothing = Unit
  Shut n (element name begin end inside rest) =
      (marked marks n ≡ false → pruned marks (suc n) inside ≡ nothing) × Shut (suc n) inside × Shut (suc n + count inside) rest
  Shut n (chars begin end rest) = Shut (suc n) rest

  -- New numbers go on past a row by the nodes that are left of it.
  rank_pruned : (ns : Nodes) (n m : ℕ) → m ≡ n + count ns → Shut n ns → rank marks m ≡ rank marks n + count (pruned marks n ns)
  rank_pruned nothing n m e s = ap (rank marks) (e ∙ add-zero n) ∙ sym (add-zero (rank marks n))
  rank_pruned (element name begin end inside rest) n m e s =
      let within = rank_pruned inside (suc n) (suc n + count inside) refl s.1 in
      let behind = rank_pruned rest (suc n + count inside) m (omega arith) s.2 in
      ⊎_elim (λ (h : marked marks n ≡ true). let one = rank_marked marks n h in rw h (omega (arith, within, behind, one)))
      (λ (h : marked marks n ≡ false). let same = rank_unmarked marks n h in let no = ap count (s.0 h) in rw h (omega (arith, within, behind, same, no)))
      (decide (marked marks n))
  rank_pruned (chars begin end rest) n m e s =
      let behind = rank_pruned rest (suc n) m (omega arith) s in
      ⊎_elim (λ (h : marked marks n ≡ true). let one = rank_marked marks n h in rw h (omega (arith, behind, one)))
      (λ (h : marked marks n ≡ false). let same = rank_unmarked marks n h in rw h (omega (arith, behind, same)))
      (decide (marked marks n))

  picked : (ns : Nodes) (up n : ℕ) → Shut n ns → picks n (rows up n ns) ≡ rows (rank marks up) (rank marks n) (pruned marks n ns)
  picked nothing up n s = refl
  picked (element name begin end inside rest) up n s =
      let m = suc n + count inside in
      let long = length_rows n (suc n) inside in
      let parts : picks (suc n) (rows n (suc n) inside ++ rows up m rest) ≡ rows (rank marks n) (rank marks (suc n)) (pruned marks (suc n) inside) ++ rows (rank marks up) (rank marks m) (pruned marks m rest) =
      picks_then (rows n (suc n) inside) (rows up m rest) (suc n) m (omega (arith, long)) ∙ ap₂ ◌++◌ (picked inside n (suc n) s.1) (picked rest up m s.2) in
      let far = rank_pruned inside (suc n) m refl s.1 in
      ⊎_elim
      (λ (h : marked marks n ≡ true).
      let one = rank_marked marks n h in
      let number : rank marks m ≡ suc (rank marks n) + count (pruned marks (suc n) inside) = far ∙ ap (λ k. k + count (pruned marks (suc n) inside)) one in
      rw h
      (ap (λ (l : List Row). row (rank marks up) (What.named name) begin end ∷ l)
      (parts ∙ ap₂ (λ a b. rows (rank marks n) a (pruned marks (suc n) inside) ++ rows (rank marks up) b (pruned marks m rest)) one number)))
      (λ (h : marked marks n ≡ false).
      let number : rank marks m ≡ rank marks n = far ∙ ap (λ ns. rank marks (suc n) + count ns) (s.0 h) ∙ add-zero (rank marks (suc n)) ∙ rank_unmarked marks n h in
      rw h
      (parts
      ∙ ap₂ (λ ns b. rows (rank marks n) (rank marks (suc n)) ns ++ rows (rank marks up) b (pruned marks m rest)) (s.0 h) number))
      (decide (marked marks n))
  picked (chars begin end rest) up n s =
      let more = picked rest up (suc n) s in
      ⊎_elim
      (λ (h : marked marks n ≡ true).
      rw h (ap (λ (l : List Row). row (rank marks up) What.text begin end ∷ l) (more ∙ ap (λ k. rows (rank marks up) k (pruned marks (suc n) rest)) (rank_marked marks n h))))
      (λ (h : marked marks n ≡ false). rw h (more ∙ ap (λ k. rows (rank marks up) k (pruned marks (suc n) rest)) (rank_unmarked marks n h)))
      (decide (marked marks n))

  picked_table : (long : ℕ) (tree : Nodes) → marked marks 0 ≡ true → Shut 1 tree → picks 0 (table long tree) ≡ table long (pruned marks 1 tree)
  picked_table long tree h s =
      let one : rank marks 1 ≡ 1 = rank_marked marks 0 h in
      rw h (ap (λ (l : List Row). row 0 What.root 0 long ∷ l) (picked tree 0 1 s ∙ ap (λ k. rows 0 k (pruned marks 1 tree)) one))

  -- Behind the first line.
  behind : (r : ℕ) (x : Row) (xs : List Row) (y : Row) → 0 < r → ((q : ℕ) → r ≡ suc q → line_at xs q ≡ y) → line_at (x ∷ xs) r ≡ y
  behind zero x xs y z h = absurd (omega arith)
  behind (suc q) x xs y z h = h q refl

  -- The line of a marked node stands at its new number.
  line_picked : (lines : List Row) (n k r : ℕ) → k < length lines → marked marks (n + k) ≡ true → rank marks n + r ≡ rank marks (n + k) → line_at (picks n lines) r ≡ renumbered (line_at lines k)
  line_picked [] n k r l m e = absurd (omega arith)
  line_picked (x ∷ xs) n zero r l m e =
      let here : marked marks n ≡ true = ap (marked marks) (sym (add-zero n)) ∙ m in
      let first : r ≡ 0 = omega (arith, e, ap (rank marks) (add-zero n)) in
      ap (line_at (picks n (x ∷ xs))) first ∙ rw here
  line_picked (x ∷ xs) n (suc k) r l m e =
      let on : n + suc k ≡ suc n + k = omega arith in
      let later : marked marks (suc n + k) ≡ true = ap (marked marks) (sym on) ∙ m in
      let far : rank marks n + r ≡ rank marks (suc n + k) = e ∙ ap (rank marks) on in
      ⊎_elim
      (λ (h : marked marks n ≡ true).
      let one = rank_marked marks n h in
      let before : rank marks (suc n) ≤ rank marks (suc n + k) = rank_mono marks (suc n) (suc n + k) (omega arith) in
      rw h
      (behind r (renumbered x) (picks (suc n) xs) (renumbered (line_at xs k)) (omega (arith, one, before, far))
      (λ q f. line_picked xs (suc n) k q (omega arith) later (omega (arith, f, one, far)))))
      (λ (h : marked marks n ≡ false). rw h (line_picked xs (suc n) k r (omega arith) later (ap (λ a. a + r) (rank_unmarked marks n h) ∙ far)))
      (decide (marked marks n))

  pub pruned_line : (long : ℕ) (tree : Nodes) → marked marks 0 ≡ true → Shut 1 tree → (i : ℕ) → i < length (table long tree) → marked marks i ≡ true
      → line_at (table long (pruned marks 1 tree)) (rank marks i) ≡ renumbered (line_at (table long tree) i)
  pruned_line long tree h s i l m =
      let z : 0 + i ≡ i = omega arith in
      ap (λ (ls : List Row). line_at ls (rank marks i)) (sym (picked_table long tree h s))
      ∙ line_picked (table long tree) 0 i (rank marks i) l (ap (marked marks) z ∙ m) (omega (arith, ap (rank marks) z))

  -- A column of the extracted table by the lines.
  pick_lines : (g : Row → ℕ) (f : ℕ → ℕ) (lines : List Row) (n : ℕ) → ((k : ℕ) → k < length lines → f (n + k) ≡ g (renumbered (line_at lines k)))
      → pick_from marks (length lines) n f ≡ map g (picks n lines)
  pick_lines g f [] n h = refl
  pick_lines g f (r ∷ rs) n h =
      let first : f n ≡ g (renumbered r) = ap f (sym (add-zero n)) ∙ h 0 (omega arith) in
      let more : pick_from marks (length rs) (suc n) f ≡ map g (picks (suc n) rs) =
      pick_lines g f rs (suc n) (λ k l. let e : suc n + k ≡ n + suc k = omega arith in ap f e ∙ h (suc k) (omega arith)) in
      ⊎_elim (λ (m : marked marks n ≡ true). rw m (ap₂ (λ (x : ℕ) (l : List ℕ). x ∷ l) first more)) (λ (m : marked marks n ≡ false). rw m more) (decide (marked marks n))

  -- THE EXTRACTED TABLE, where the root is marked.
  pub extracted_pruned : (list : List ℕ) (long : ℕ) (tree : Nodes) → marked marks 0 ≡ true → Shut 1 tree
      → extracted (columns_of list long tree) marks ≡ columns_of list long (pruned marks 1 tree)
  unfolding extracted
  extracted_pruned list long tree h s =
      let lines = table long tree in
      let t = columns_of list long tree in
      let many : nodes t ≡ length lines = length-map lines parent_field in
      let is = picked_table long tree h s in
      let column : (g : Row → ℕ) (f : ℕ → ℕ) → ((k : ℕ) → f k ≡ g (renumbered (line_at lines k))) → pick_from marks (nodes t) 0 f ≡ map g (table long (pruned marks 1 tree)) =
      λ g f e.
      ap (λ n. pick_from marks n 0 f) many
      ∙ pick_lines g f lines 0 (λ k l. let z : 0 + k ≡ k = omega arith in ap f z ∙ e k) ∙ ap (map g) is in
      ap₂ table_of (column parent_field (λ i. rank marks (parent_of t i)) (λ k. ap (rank marks) (get_or-map parent_field lines k (row 0 What.root 0 0))))
      (column (kind_field list) (λ i. kind_of t i) (λ k. get_or-map (kind_field list) lines k (row 0 What.root 0 0)))

-- Closed marks.
module _ (marks : List ℕ) (lines : List Row) (up-marked : (i : ℕ) → i < length lines → marked marks i ≡ true → marked marks (line_at lines i).parent ≡ true) where
  -- Under an unmarked node nothing is marked.
  pub unmarked : (i up : ℕ) → i < length lines → (line_at lines i).parent ≡ up → marked marks up ≡ false → marked marks i ≡ false
  unmarked i up l e h =
      ⊎_elim (λ (m : marked marks i ≡ true). absurd (false≢true (sym h ∙ ap (marked marks) (sym e) ∙ up-marked i l m))) (λ (m : marked marks i ≡ false). m) (decide (marked marks i))

  bare : (ns : Nodes) (up n : ℕ) → Stand lines n (rows up n ns) → n + count ns ≤ length lines → marked marks up ≡ false → pruned marks n ns ≡ nothing
  bare nothing up n h l u = refl
  bare (element name begin end inside rest) up n h l u =
      let line = stand_element lines up n name begin end inside rest h in
      let m = unmarked n up (omega arith) (ap (λ (r : Row). r.parent) line) u in
      rw m (bare rest up (suc n + count inside) (stand_rest lines up n name begin end inside rest h) (omega arith) u)
  bare (chars begin end rest) up n h l u =
      let line = stand_chars lines up n begin end rest h in
      let m = unmarked n up (omega arith) (ap (λ (r : Row). r.parent) line) u in
      rw m (bare rest up (suc n) (stand_behind lines up n begin end rest h) (omega arith) u)

  shut : (ns : Nodes) (up n : ℕ) → Stand lines n (rows up n ns) → n + count ns ≤ length lines → Shut marks n ns
  shut nothing up n h l = tt
  shut (element name begin end inside rest) up n h l = (
    λ m. bare inside n (suc n) (stand_inside lines up n name begin end inside rest h) (omega arith) m,
    shut inside n (suc n) (stand_inside lines up n name begin end inside rest h) (omega arith),
    shut rest up (suc n + count inside) (stand_rest lines up n name begin end inside rest h) (omega arith),
  )
  shut (chars begin end rest) up n h l = shut rest up (suc n) (stand_behind lines up n begin end rest h) (omega arith)

pub under_marked : (list marks : List ℕ) (long : ℕ) (tree : Nodes) → Closed (columns_of list long tree) marks
    → (i : ℕ) → i < length (table long tree) → marked marks i ≡ true → marked marks (line_at (table long tree) i).parent ≡ true
under_marked list marks long tree c i l m =
    ap (marked marks) (sym (parent_column long tree (map (kind_field list) (table long tree)) i)) ∙ c i (omega (arith, length-map (table long tree) parent_field)) m

pub closed_shut : (list marks : List ℕ) (long : ℕ) (tree : Nodes) → Closed (columns_of list long tree) marks → Shut marks 1 tree
closed_shut list marks long tree c = shut marks (table long tree) (under_marked list marks long tree c) tree 0 1 (stand_table long tree) (omega (arith, length_table long tree))

pub closed_bare : (list marks : List ℕ) (long : ℕ) (tree : Nodes) → Closed (columns_of list long tree) marks → marked marks 0 ≡ false → pruned marks 1 tree ≡ nothing
closed_bare list marks long tree c h = bare marks (table long tree) (under_marked list marks long tree c) tree 0 1 (stand_table long tree) (omega (arith, length_table long tree)) h
