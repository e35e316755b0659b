-- Equal sub-documents with equal bytes of text give the same file.
-- The lines of a tree, each with its parent, what it is and the bytes of a text, leave one tree apart from places; and what is written depends on that alone. Assumes nothing.
use Prim.Native.Nat.{ℕ, zero, suc, ◌+◌, ◌<◌, ◌≤◌}
use native.Mathlib.Omega.{arith}
use mathlib.Core.Path.{◌≡◌, refl, sym, ◌∙◌, ap, ap₂, subst}
use mathlib.Core.Bool.{true, false, false≢true}
use mathlib.Core.List.{List, [], ◌∷◌, ◌++◌, map, map-append, append_assoc, append-nil}
use mathlib.Core.Logic.{⊎_elim}
use mathlib.Core.Option.{Option, none, some}
use lib.ListN.{length, length-map, get_or-map}
use lib.Seq.{ext_get_or}
use Rattle.paper.specs.Tools.{same}
use Rattle.paper.specs.Names.{names_fault, names_of, number_from, number_of}
use Rattle.paper.specs.Document.{nodes, parent_of, kind_of, marked}
use Rattle.paper.specs.Extraction.{rank, extracted}
use Rattle.paper.specs.Xml.{Nodes, nothing, element, chars, What, Row, row, rows, table, count, name_kind, kind_by, lacks}
use Rattle.paper.specs.WriteXml.{pruned, bytes_at, squares_past, escaped, as_xml, kept_of, kept_xml}
use Rattle.paper.specs.Answers.{parent_field, kind_field}
use Rattle.paper.proofs.Tests.{none-some, decide}
use Rattle.paper.proofs.Same.{same_equal}
use Rattle.paper.proofs.Trees.{closed}
use Rattle.paper.proofs.Extracting.{rank_less, rank-back, length_pick, extracted_empty}
use Rattle.xml_theorems.specs.Tables.{line_at}
use Rattle.xml_theorems.proofs.Placed.{named_text}
use Rattle.xml_theorems.proofs.Tabled.{element_low, good_table}
use Rattle.xml_theorems.proofs.Standing.{named_same}
use Rattle.file_theorems.specs.Files.{columns_of, Cut, EqualBytes, SameFile}
use Rattle.file_theorems.proofs.Pruning.{renumbered, Shut, closed_shut, closed_bare, extracted_pruned, pruned_line}
use Rattle.file_theorems.proofs.Back.{Named, named_lines, rows_known, known_rows, known_pruned}

-- WHAT A LINE TELLS apart from its place: its parent, what it is, and the bytes of a text.
record Told : Type 0 where
  parent : ℕ
  what : What
  bytes : List ℕ

abbrev bytes_of : List ℕ → What → ℕ → ℕ → List ℕ
bytes_of text What.root begin end = []
bytes_of text What.text begin end = bytes_at text begin end
bytes_of text (What.named name) begin end = []

abbrev telling : List ℕ → Row → Told
telling text r = record { parent = r.parent; what = r.what; bytes = bytes_of text r.what r.begin r.end }

-- The same nodes of two texts, with the same bytes, apart from places.
data Twin (text text' : List ℕ) : Nodes → Nodes → Type 0 where
  twin_nothing : Twin text text' nothing nothing
  twin_element : {name : List ℕ} {b e b' e' : ℕ} {inside rest inside' rest' : Nodes} → Twin text text' inside inside' → Twin text text' rest rest'
      → Twin text text' (element name b e inside rest) (element name b' e' inside' rest')
  twin_chars : {b e b' e' : ℕ} {rest rest' : Nodes} → bytes_at text b e ≡ bytes_at text' b' e' → Twin text text' rest rest'
      → Twin text text' (chars b e rest) (chars b' e' rest')

twin_xml : {text text' : List ℕ} {a b : Nodes} → Twin text text' a b → (k : ℕ) → as_xml text k a ≡ as_xml text' k b
twin_xml twin_nothing k = refl
twin_xml (twin_element {name = name} x y) k = ap₂ (λ (i r : List ℕ). 60 ∷ name ++ (62 ∷ i ++ (60 ∷ 47 ∷ name ++ (62 ∷ r)))) (twin_xml x 0) (twin_xml y 0)
twin_xml {text} {text'} (twin_chars {b = b} {e = e} {b' = b'} {e' = e'} {rest = r} {rest' = r'} h y) k =
    ap (λ (ws : List ℕ). escaped k ws ++ as_xml text (squares_past k ws) r) h
    ∙ ap (λ (l : List ℕ). escaped k (bytes_at text' b' e') ++ l) (twin_xml y (squares_past k (bytes_at text' b' e')))

-- LINES LEAVE ONE TREE. These lines do not go on under `up`: the first has a parent before it.
abbrev Outside : ℕ → List Told → Type 0
Outside up [] = Unit
Outside up (x ∷ xs) = x.parent < up

outside_further : (up n : ℕ) (xs : List Told) → up < n → Outside up xs → Outside n xs
outside_further up n [] l o = tt
outside_further up n (x ∷ xs) l o = omega (arith, o)

outside_rest : (text : List ℕ) (up n m : ℕ) (ns : Nodes) (xs : List Told) → up < n → Outside up xs → Outside n (map (telling text) (rows up m ns) ++ xs)
outside_rest text up n m nothing xs l o = outside_further up n xs l o
outside_rest text up n m (element name begin end inside rest) xs l o = l
outside_rest text up n m (chars begin end rest) xs l o = l

head_same : {x y : Told} {xs ys : List Told} → x ∷ xs ≡ y ∷ ys → x ≡ y
head_same h = cc

tail_same : {x y : Told} {xs ys : List Told} → x ∷ xs ≡ y ∷ ys → xs ≡ ys
tail_same h = cc

module _ (text text' : List ℕ) where
  -- The lines of a row and others behind it.
  abbrev with : List ℕ → ℕ → ℕ → Nodes → List Told → List Told
  with whole up n ns xs = map (telling whole) (rows up n ns) ++ xs

  with_element : (whole : List ℕ) (up n : ℕ) (inside rest : Nodes) (xs : List Told)
      → map (telling whole) (rows n (suc n) inside ++ rows up (suc n + count inside) rest) ++ xs ≡ with whole n (suc n) inside (with whole up (suc n + count inside) rest xs)
  with_element whole up n inside rest xs =
      let is = rows n (suc n) inside in
      let rs = rows up (suc n + count inside) rest in
      ap (λ (l : List Told). l ++ xs) (map-append (telling whole) is rs) ∙ append_assoc (map (telling whole) is) (map (telling whole) rs) xs

  no_more : (whole : List ℕ) (up n : ℕ) (t : Told) (ts xs : List Told) → t.parent ≡ up → Outside up xs → xs ≡ t ∷ ts → ⊥
  no_more whole up n t ts xs e o h = let l : t.parent < up = subst (Outside up) h o in omega (arith, l, e)

  twins : (a b : Nodes) (up n : ℕ) (xs ys : List Told) → up < n → Outside up xs → Outside up ys → with text up n a xs ≡ with text' up n b ys → Twin text text' a b × (xs ≡ ys)
  twins nothing nothing up n xs ys l o p h = (twin_nothing, h)
  twins nothing (element name begin end inside rest) up n xs ys l o p h = absurd (no_more text up n _ _ xs refl o h)
  twins nothing (chars begin end rest) up n xs ys l o p h = absurd (no_more text up n _ _ xs refl o h)
  twins (element name begin end inside rest) nothing up n xs ys l o p h = absurd (no_more text up n _ _ ys refl p (sym h))
  twins (element name begin end inside rest) (element name' begin' end' inside' rest') up n xs ys l o p h =
      let word : name ≡ name' = named_same (ap (λ (t : Told). t.what) (head_same h)) in
      let m = suc n + count inside in
      let m' = suc n + count inside' in
      let (i, more) =
      twins inside inside' n (suc n) (with text up m rest xs) (with text' up m' rest' ys) (omega arith) (outside_rest text up n m rest xs l o) (outside_rest text' up n m' rest' ys l p)
      (sym (with_element text up n inside rest xs) ∙ tail_same h ∙ with_element text' up n inside' rest' ys) in
      let far : m' ≡ m = ap (λ k. suc n + k) (sym (twin_count i)) in
      let (r, same) = twins rest rest' up m xs ys (omega arith) o p (more ∙ ap (λ k. with text' up k rest' ys) far) in
      (subst (λ (w : List ℕ). Twin text text' (element name begin end inside rest) (element w begin' end' inside' rest')) word (twin_element i r), same)
    where
      twin_count : {a b : Nodes} → Twin text text' a b → count a ≡ count b
      twin_count twin_nothing = refl
      twin_count (twin_element x y) = ap₂ (λ m n. suc (m + n)) (twin_count x) (twin_count y)
      twin_count (twin_chars z y) = ap suc (twin_count y)
  twins (element name begin end inside rest) (chars begin' end' rest') up n xs ys l o p h = absurd (named_text name (ap (λ (t : Told). t.what) (head_same h)))
  twins (chars begin end rest) nothing up n xs ys l o p h = absurd (no_more text up n _ _ ys refl p (sym h))
  twins (chars begin end rest) (element name' begin' end' inside' rest') up n xs ys l o p h = absurd (named_text name' (sym (ap (λ (t : Told). t.what) (head_same h))))
  twins (chars begin end rest) (chars begin' end' rest') up n xs ys l o p h =
      let (r, same) = twins rest rest' up (suc n) xs ys (omega arith) o p (tail_same h) in
      (twin_chars (ap (λ (t : Told). t.bytes) (head_same h)) r, same)

-- KINDS TELL NAMES, where the list has them.
number_least : (names : List (List ℕ)) (v k : ℕ) (word : List ℕ) → number_from v names word ≡ some k → v ≤ k
number_least [] v k word h = none-some h
number_least (n ∷ ns) v k word h =
    ⊎_elim (λ (e : same n word ≡ true). let f : some v ≡ some k = rw e at h in let g : v ≡ k = cc in omega arith)
    (λ (e : same n word ≡ false). omega (arith, number_least ns (suc v) k word (rw e at h)))
    (decide (same n word))

number_same : (names : List (List ℕ)) (v k : ℕ) (a b : List ℕ) → number_from v names a ≡ some k → number_from v names b ≡ some k → a ≡ b
number_same [] v k a b h i = none-some h
number_same (n ∷ ns) v k a b h i =
    ⊎_elim
    (λ (e : same n a ≡ true).
    let f : some v ≡ some k = rw e at h in
    let first : v ≡ k = cc in
    ⊎_elim (λ (g : same n b ≡ true). sym (same_equal n a e) ∙ same_equal n b g)
    (λ (g : same n b ≡ false). absurd (omega (arith, first, number_least ns (suc v) k b (rw g at i))))
    (decide (same n b)))
    (λ (e : same n a ≡ false).
    let later = rw e at h in
    ⊎_elim (λ (g : same n b ≡ true). absurd (let f : some v ≡ some k = rw g at i in let first : v ≡ k = cc in omega (arith, number_least ns (suc v) k a later)))
    (λ (g : same n b ≡ false). number_same ns (suc v) k a b later (rw g at i))
    (decide (same n b)))
    (decide (same n a))

module _ (names : List (List ℕ)) where
  abbrev look : List ℕ → Option ℕ
  look = number_of names

  numbered {ℓ} : {C : Type ℓ} (name : List ℕ) → lacks look (What.named name) ≡ false → ((v : ℕ) → look name ≡ some v → C) → C
  numbered {C = C} name h next = go (look name) refl
    where
      go : (o : Option ℕ) → look name ≡ o → C
      go none e = absurd (false≢true (sym (rw e at h)))
      go (some v) e = next v e

  what_same : (a b : What) → lacks look a ≡ false → lacks look b ≡ false → kind_by look a ≡ kind_by look b → a ≡ b
  what_same What.root What.root h i e = refl
  what_same What.root What.text h i e = absurd (omega (arith, e))
  what_same What.root (What.named name) h i e = absurd (omega (arith, e, element_low (look name)))
  what_same What.text What.root h i e = absurd (omega (arith, e))
  what_same What.text What.text h i e = refl
  what_same What.text (What.named name) h i e = absurd (omega (arith, e, element_low (look name)))
  what_same (What.named name) What.root h i e = absurd (omega (arith, e, element_low (look name)))
  what_same (What.named name) What.text h i e = absurd (omega (arith, e, element_low (look name)))
  what_same (What.named name) (What.named name') h i e =
      numbered name h
      (λ v p.
      numbered name' i
      (λ u q.
      let equal : v ≡ u = omega (arith, sym (ap name_kind p) ∙ e ∙ ap name_kind q) in
      ap What.named (number_same names 0 v name name' p (q ∙ ap some (sym equal)))))

-- THE LINES OF WHAT IS KEPT, where the root is marked.
module _ (list text : List ℕ) (tree : Nodes) (marks : List ℕ) (c : Cut list text tree marks) (root : marked marks 0 ≡ true) where
  abbrev whole : List Row
  whole = table (length text) tree

  abbrev left : List Row
  left = table (length text) (pruned marks 1 tree)

  shut : Shut marks 1 tree
  shut = closed_shut list marks (length text) tree (closed (columns_of list (length text) tree) marks c.fine)

  left_columns : extracted (columns_of list (length text) tree) marks ≡ columns_of list (length text) (pruned marks 1 tree)
  left_columns = extracted_pruned marks list (length text) tree root shut

  left_many : length left ≡ rank marks (length whole)
  unfolding extracted
  left_many =
      sym (length-map left parent_field) ∙ ap nodes (sym left_columns)
      ∙ length_pick marks (λ i. rank marks (parent_of (columns_of list (length text) tree) i)) (nodes (columns_of list (length text) tree)) ∙ ap (rank marks) (length-map whole parent_field)

  -- Each is the line of a marked node.
  left-line {ℓ} : {C : Type ℓ} (r : ℕ) → r < length left
      → ((i : ℕ) → i < length whole → marked marks i ≡ true → rank marks i ≡ r → line_at left r ≡ renumbered marks (line_at whole i) → C) → C
  left-line r l next =
      rank-back marks (length whole) r (omega (arith, left_many))
      (λ i b m e. next i b m e (ap (line_at left) (sym e) ∙ pruned_line marks (length text) tree root shut i b m))

  left_known : (r : ℕ) → lacks (number_of (names_of list)) (line_at left r).what ≡ false
  left_known r = at left all r
    where
      at : (ls : List Row) → Named (number_of (names_of list)) ls → (r : ℕ) → lacks (number_of (names_of list)) (line_at ls r).what ≡ false
      at [] h r = refl
      at (x ∷ xs) h zero = h.0
      at (x ∷ xs) h (suc r) = at xs h.1 r

      all : Named (number_of (names_of list)) left
      all =
          let look = number_of (names_of list) in
          (refl, known_rows look (pruned marks 1 tree) 0 1 (known_pruned look marks tree 1 (rows_known look tree 0 1 (named_lines look whole c.named).1)))

bytes_same : (text text' : List ℕ) (w : What) (b e b' e' : ℕ) → (w ≡ What.text → bytes_at text b e ≡ bytes_at text' b' e') → bytes_of text w b e ≡ bytes_of text' w b' e'
bytes_same text text' What.root b e b' e' h = refl
bytes_same text text' What.text b e b' e' h = h refl
bytes_same text text' (What.named name) b e b' e' h = refl

telling_same : (text text' : List ℕ) (x y : Row) → x.parent ≡ y.parent → x.what ≡ y.what → (x.what ≡ What.text → bytes_at text x.begin x.end ≡ bytes_at text' y.begin y.end)
    → telling text x ≡ telling text' y
telling_same text text' x y p w h =
    let bytes : bytes_of text x.what x.begin x.end ≡ bytes_of text' y.what y.begin y.end =
    bytes_same text text' x.what x.begin x.end y.begin y.end h ∙ ap (λ v. bytes_of text' v y.begin y.end) w in
    ap₂ (λ (a : ℕ) (v : What). record { parent = a; what = v; bytes = bytes_of text x.what x.begin x.end }) p w
    ∙ ap (λ (l : List ℕ). record { parent = y.parent; what = y.what; bytes = l }) bytes

-- What is kept of both tells the same, line by line.
module _ (list text text' marks marks' : List ℕ) (tree tree' : Nodes) (c : Cut list text tree marks) (c' : Cut list text' tree' marks') (root : marked marks 0 ≡ true) (root' : marked marks' 0 ≡ true)
    (tables : extracted (columns_of list (length text) tree) marks ≡ extracted (columns_of list (length text') tree') marks') (bytes : EqualBytes text tree marks text' tree' marks') where
  abbrev here : List Row
  here = table (length text) (pruned marks 1 tree)

  abbrev there : List Row
  there = table (length text') (pruned marks' 1 tree')

  columns : columns_of list (length text) (pruned marks 1 tree) ≡ columns_of list (length text') (pruned marks' 1 tree')
  columns = sym (left_columns list text tree marks c root) ∙ tables ∙ left_columns list text' tree' marks' c' root'

  as_many : length here ≡ length there
  as_many = sym (length-map here parent_field) ∙ ap nodes columns ∙ length-map there parent_field

  parents_same : (r : ℕ) → (line_at here r).parent ≡ (line_at there r).parent
  parents_same r =
      sym (get_or-map parent_field here r (row 0 What.root 0 0)) ∙ ap (λ t. parent_of t r) columns ∙ get_or-map parent_field there r (row 0 What.root 0 0)

  whats_same : (r : ℕ) → (line_at here r).what ≡ (line_at there r).what
  whats_same r =
      what_same (names_of list) (line_at here r).what (line_at there r).what (left_known list text tree marks c root r) (left_known list text' tree' marks' c' root' r)
      (sym (get_or-map (kind_field list) here r (row 0 What.root 0 0)) ∙ ap (λ t. kind_of t r) columns ∙ get_or-map (kind_field list) there r (row 0 What.root 0 0))

  lines_same : (r : ℕ) → r < length here → telling text (line_at here r) ≡ telling text' (line_at there r)
  lines_same r l =
      telling_same text text' (line_at here r) (line_at there r) (parents_same r) (whats_same r)
      (λ w.
      left-line list text tree marks c root r l
      (λ i li mi ei p.
      left-line list text' tree' marks' c' root' r (omega (arith, as_many))
      (λ j lj mj ej q.
      ap (λ (x : Row). bytes_at text x.begin x.end) p
      ∙ bytes i j li lj mi mj (ei ∙ sym ej) (sym (ap (λ (x : Row). x.what) p) ∙ w)
      ∙ ap (λ (x : Row). bytes_at text' x.begin x.end) (sym q))))

  told_same : map (telling text) here ≡ map (telling text') there
  told_same =
      let default = row 0 What.root 0 0 in
      ext_get_or (telling text default) (map (telling text) here) (map (telling text') there) (length-map here (telling text) ∙ as_many ∙ sym (length-map there (telling text')))
      (λ r l.
      get_or-map (telling text) here r default ∙ lines_same r (omega (arith, length-map here (telling text))) ∙ sym (get_or-map (telling text') there r default))

  kept_same : as_xml text 0 (pruned marks 1 tree) ≡ as_xml text' 0 (pruned marks' 1 tree')
  kept_same =
      let rest = tail_same told_same in
      twin_xml
      (twins text text' (pruned marks 1 tree) (pruned marks' 1 tree') 0 1 [] [] (omega arith) tt tt
      (append-nil (map (telling text) (rows 0 1 (pruned marks 1 tree))) ∙ rest ∙ sym (append-nil (map (telling text') (rows 0 1 (pruned marks' 1 tree')))))).0
      0

-- Where the root is not marked, nothing is kept.
none_kept : (list text : List ℕ) (tree : Nodes) (marks : List ℕ) → Cut list text tree marks → marked marks 0 ≡ false → as_xml text 0 (pruned marks 1 tree) ≡ []
none_kept list text tree marks c h = ap (as_xml text 0) (closed_bare list marks (length text) tree (closed (columns_of list (length text) tree) marks c.fine) h)

-- And then it is not marked in the other either.
root_unmarked : (list text text' marks marks' : List ℕ) (tree tree' : Nodes) → names_fault list ≡ none → Cut list text tree marks
    → extracted (columns_of list (length text) tree) marks ≡ extracted (columns_of list (length text') tree') marks' → marked marks 0 ≡ false → marked marks' 0 ≡ false
unfolding extracted
root_unmarked list text text' marks marks' tree tree' fine c tables h =
    let t = columns_of list (length text) tree in
    let t' = columns_of list (length text') tree' in
    let few = extracted_empty t marks (good_table list (length text) tree fine).table_fine c.fine h in
    let long = length_pick marks (λ i. rank marks (parent_of t i)) (nodes t) in
    let long' = length_pick marks' (λ i. rank marks' (parent_of t' i)) (nodes t') in
    let equal : nodes (extracted t marks) ≡ nodes (extracted t' marks') = ap nodes tables in
    ⊎_elim
    (λ (m : marked marks' 0 ≡ true).
    absurd (omega (arith, few, long, long', equal, rank_less marks' 0 (nodes t') (omega (arith, length-map (table (length text') tree') parent_field)) m)))
    (λ (m : marked marks' 0 ≡ false). m)
    (decide (marked marks' 0))

pub same_file : SameFile
unfolding kept_xml
same_file list text text' marks marks' tree tree' fine c c' tables bytes =
    ap (kept_of text marks) c.read
    ∙ ⊎_elim
    (λ (m : marked marks 0 ≡ true).
    ⊎_elim (λ (m' : marked marks' 0 ≡ true). kept_same list text text' marks marks' tree tree' c c' m m' tables bytes)
    (λ (m' : marked marks' 0 ≡ false). absurd (false≢true (sym (root_unmarked list text' text marks' marks tree' tree fine c' (sym tables) m') ∙ m)))
    (decide (marked marks' 0)))
    (λ (m : marked marks 0 ≡ false).
    none_kept list text tree marks c m
    ∙ sym (none_kept list text' tree' marks' c' (root_unmarked list text text' marks marks' tree tree' fine c tables m)))
    (decide (marked marks 0))
    ∙ sym (ap (kept_of text' marks') c'.read)
