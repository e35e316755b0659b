-- Every answer of writing XML is small: no node writes more than four times the bytes of the text, and there are few nodes. Line by line of the answer. Assumes nothing.
use Prim.Native.Nat.{ℕ, zero, suc, ◌+◌, ◌-◌, ◌*◌, ◌≤◌, ◌<◌}
use native.Mathlib.Omega.{arith}
use borrow.Author.Tests.{ltb-false, eqb-true}
use mathlib.Core.Path.{◌≡◌, ◌∙◌, ap}
use mathlib.Core.Bool.{true, false, not, ◌&&◌, ◌||◌, false≢true}
use mathlib.Core.List.{List, [], ◌∷◌, ◌++◌}
use mathlib.Core.Logic.{⊎_elim}
use lib.Dec.{eqb, ltb}
use lib.ListN.{length, take, drop, length-append, length-drop, length-map}
use Rattle.paper.specs.Limits.{text_limit, list_limit, node_limit}
use Rattle.paper.specs.Names.{names_fault}
use Rattle.paper.specs.Document.{Table, nodes, marked, table_fault, marks_fault}
use Rattle.paper.specs.Xml.{Nodes, nothing, element, chars, wanted, read_xml, table, count, starts}
use Rattle.paper.specs.WriteXml.{pruned, bytes_at, squares_by, squares_past, escaped, as_xml, kept_of, kept_xml}
use Rattle.paper.specs.Answers.{parent_field, too_long, element_marked, reads_as, write_xml_answer}
use Rattle.paper.proofs.Tests.{and_true, decide}
use Rattle.paper.proofs.Refusing.{or_none}
use Rattle.answer_bounds.specs.Bounds.{Small}
use Rattle.answer_bounds.proofs.NameBounds.{fault_within}
use Rattle.answer_bounds.proofs.Bounds.{small_line, small_when, small_room, table_within, marks_within}
use Rattle.xml_theorems.specs.Tables.{Standing}
use Rattle.xml_theorems.proofs.Placed.{length_table}
use Rattle.xml_theorems.proofs.Standing.{tree_stands}
use Rattle.file_theorems.proofs.Answered.{Reads, reads, not_not}

-- What bytes begin with is no longer than they are.
starts_short : (xs bs : List ℕ) → starts xs bs ≡ true → length xs ≤ length bs
starts_short [] bs h = omega arith
starts_short (x ∷ xs) [] h = absurd (false≢true h)
starts_short (x ∷ xs) (b ∷ bs) h = omega (arith, starts_short xs bs (and_true (eqb b x) (starts xs bs) h).1)

drop_short : (n : ℕ) (xs : List ℕ) → length (drop n xs) ≤ length xs
drop_short n xs = omega (arith, length-drop n xs)

pub take_short : (n : ℕ) (xs : List ℕ) → length (take n xs) ≤ length xs
take_short zero xs = omega arith
take_short (suc n) [] = omega arith
take_short (suc n) (x ∷ xs) = omega (arith, take_short n xs)

-- A byte becomes four at most.
pub escaped_short : (bs : List ℕ) (k : ℕ) → length (escaped k bs) ≤ 4 * length bs
escaped_short [] k = omega arith
escaped_short (b ∷ bs) k =
    ⊎_elim (λ (h : (eqb b 62 && eqb k 2) ≡ true). rw h (omega (arith, escaped_short bs 0)))
    (λ (h : (eqb b 62 && eqb k 2) ≡ false). rw h (omega (arith, escaped_short bs (squares_by k b))))
    (decide (eqb b 62 && eqb k 2))

-- The most that one node writes.
abbrev node_bytes : ℕ
node_bytes = 131072

module _ (text marks : List ℕ) (short : length text ≤ text_limit) where
  kept_short : (ns : Nodes) (n k : ℕ) → Standing text ns → length (as_xml text k (pruned marks n ns)) ≤ node_bytes * count ns
  kept_short nothing n k s = omega arith
  kept_short (element name begin end inside rest) n k s =
      let within = kept_short inside (suc n) 0 s.1 in
      let behind = kept_short rest (suc n + count inside) 0 s.2 in
      let passed = kept_short rest (suc n + count inside) k s.2 in
      let word = starts_short (60 ∷ name) (drop begin text) s.0.opened in
      let room = drop_short begin text in
      let is = as_xml text 0 (pruned marks (suc n) inside) in
      let rs = as_xml text 0 (pruned marks (suc n + count inside) rest) in
      let a = length-append name (62 ∷ is ++ (60 ∷ 47 ∷ name ++ (62 ∷ rs))) in
      let b = length-append is (60 ∷ 47 ∷ name ++ (62 ∷ rs)) in
      let c = length-append name (62 ∷ rs) in
      ⊎_elim (λ (h : marked marks n ≡ true). rw h (omega (arith, within, behind, word, room, a, b, c)))
      (λ (h : marked marks n ≡ false). rw h (omega (arith, passed)))
      (decide (marked marks n))
  kept_short (chars begin end rest) n k s =
      let bytes = bytes_at text begin end in
      let behind = kept_short rest (suc n) (squares_past k bytes) s.1 in
      let passed = kept_short rest (suc n) k s.1 in
      let long = escaped_short bytes k in
      let room = drop_short begin text in
      let cut = take_short (end - begin) (drop begin text) in
      let a = length-append (escaped k bytes) (as_xml text (squares_past k bytes) (pruned marks (suc n) rest)) in
      ⊎_elim (λ (h : marked marks n ≡ true). rw h (omega (arith, behind, long, room, cut, a)))
      (λ (h : marked marks n ≡ false). rw h (omega (arith, passed)))
      (decide (marked marks n))

-- So it is of all that is written.
pub kept_small : (text marks : List ℕ) (tree : Nodes) → length text ≤ text_limit → read_xml text ≡ wanted tree → length (table (length text) tree) ≤ node_limit → length (kept_xml text marks) < 4294967296
unfolding kept_xml
kept_small text marks tree short read few =
    omega
    (arith, ap (λ j. length (kept_of text marks j)) read, kept_short text marks short tree 1 0 (tree_stands text tree read), length_table (length text) tree, few)

file_small : (text list : List ℕ) (t : Table) (begins ends marks : List ℕ) → length text ≤ text_limit → Reads text list t begins ends → length (kept_xml text marks) < 4294967296
file_small text list t begins ends marks short r =
    let many : nodes t ≡ length (table (length text) r.tree) = ap nodes r.columns ∙ length-map (table (length text) r.tree) parent_field in
    kept_small text marks r.tree short r.read (omega (arith, many, r.few))

pub write_xml_small : (text list : List ℕ) (t : Table) (begins ends marks : List ℕ) (room : ℕ) → Small (write_xml_answer text list t begins ends marks room)
unfolding write_xml_answer
write_xml_small text list t begins ends marks room =
    let k = not (eqb (length t.kinds) (nodes t)) in
    let b = not (eqb (length begins) (nodes t)) in
    let e = not (eqb (length ends) (nodes t)) in
    let m = not (eqb (length marks) (nodes t)) in
    let long = too_long text text_limit || too_long list list_limit in
    let over = long || ltb node_limit (nodes t) in
    small_when 1 0 (over || k || b || e || m) _ (omega arith)
    (λ h.
    let c2 = or_none (over || k || b) e (or_none (over || k || b || e) m h).0 in
    let c3 = or_none (over || k) b c2.0 in
    let c4 = or_none over k c3.0 in
    let c5 = or_none long (ltb node_limit (nodes t)) c4.0 in
    let c6 = or_none (too_long text text_limit) (too_long list list_limit) c5.0 in
    let few : nodes t ≤ node_limit = ltb-false node_limit (nodes t) c5.1 in
    let equal : (x : ℕ) → not (eqb x (nodes t)) ≡ false → x ≡ nodes t = λ x z. eqb-true x (nodes t) (not_not (eqb x (nodes t)) z) in
    small_line 2 (names_fault list) _ (λ p f. omega (arith, fault_within list p f, ltb-false list_limit (length list) c6.1))
    (small_line 7 (table_fault t) _ (λ p f. omega (arith, table_within t p f))
    (small_line 8 (marks_fault t marks) _ (λ p f. omega (arith, marks_within t marks p f))
    (small_when 13 0 (not (element_marked t marks)) _ (omega arith)
    (λ x.
    small_when 14 0 (not (reads_as text list t begins ends)) _ (omega arith)
    (λ y.
    small_room (length (kept_xml text marks)) (ltb room (length (kept_xml text marks)))
    (file_small text list t begins ends marks (ltb-false text_limit (length text) c6.0)
    (reads text list t begins ends (equal (length t.kinds) c4.1) (equal (length begins) c3.1) (equal (length ends) c2.1) (not_not (reads_as text list t begins ends) y)))))))))
