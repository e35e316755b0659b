-- Every answer of reading XML is small: a refusal stands within the text, and a text has no more nodes than bytes. Line by line of the answer. Assumes nothing.
use Prim.Native.Nat.{ℕ, suc, ◌+◌, ◌≤◌, ◌<◌}
use native.Mathlib.Omega.{arith}
use borrow.Author.Tests.{ltb-false}
use mathlib.Core.Path.{◌≡◌, refl, sym, ◌∙◌, ap, subst}
use mathlib.Core.Bool.{Bool, true, false, not, ◌||◌, cond}
use mathlib.Core.List.{List, [], ◌∷◌, ◌++◌}
use mathlib.Core.Option.{Option, none, some}
use lib.Dec.{eqb, ltb}
use lib.ListN.{length, length-append}
use Rattle.paper.specs.Limits.{text_limit, list_limit, node_limit}
use Rattle.paper.specs.Names.{names_fault, names_of, number_of}
use Rattle.paper.specs.Xml.{Nodes, nothing, element, chars, Mode, start, first, heading, ahead, opening, in_name, in_tag, emptied, content, run, partly, closing, ended, State, step, left_out, Judged, wanted, unwanted, at_end, onward, judge, read_xml, What, Row, row, rows, table, count, lacks, unnamed}
use Rattle.paper.specs.Answers.{Answer, value, line, too_long, line_xml, short_of_nodes, read_xml_last, read_xml_answer}
use Rattle.paper.proofs.Tests.{none-some, some_inj}
use Rattle.paper.proofs.Refusing.{or_none}
use Rattle.answer_bounds.specs.Bounds.{Small}
use Rattle.query_grammar.proofs.Seeing.{chosen}
use Rattle.answer_bounds.proofs.NameBounds.{fault_within}
use Rattle.answer_bounds.proofs.Bounds.{small_line, small_when, small_room}
use Rattle.xml_theorems.specs.Tables.{Nested}
use Rattle.xml_theorems.proofs.Nesting.{tree_nests}

-- A REFUSAL STANDS WITHIN THE TEXT.
abbrev Placed : ℕ → Judged → Type 0
Placed most (wanted tree) = Unit
Placed most (unwanted number place) = place ≤ most

end_placed : (m : Mode) (at : ℕ) → Placed at (at_end m at)
end_placed start at = omega arith
end_placed first at = omega arith
end_placed (heading p) at = omega arith
end_placed ahead at = omega arith
end_placed (opening begin) at = omega arith
end_placed (in_name begin name) at = omega arith
end_placed (in_tag begin name) at = omega arith
end_placed (emptied begin name) at = omega arith
end_placed content at = omega arith
end_placed (run begin k) at = omega arith
end_placed (partly begin p) at = omega arith
end_placed (closing name) at = omega arith
end_placed (ended tree) at = tt

judge_placed : (bs : List ℕ) (at most : ℕ) (s : State) → at + length bs ≡ most → Placed most (judge at s bs)
judge_placed [] at most s e = let f : at ≡ most = omega arith in subst (λ n. Placed n (at_end s.mode at)) f (end_placed s.mode at)
judge_placed (b ∷ bs) at most s e = go (left_out s.mode (b ∷ bs)) (step at s b) (λ t. judge_placed bs (suc at) most t (omega arith))
  where
    go : (opens : Bool) (next : Option State) → ((t : State) → Placed most (judge (suc at) t bs)) → Placed most (cond opens (unwanted 12 at) (onward at next (λ t. judge (suc at) t bs)))
    go true next h = omega arith
    go false none h = omega arith
    go false (some t) h = h t

-- AS MANY NODES AS BYTES AT MOST.
few_nodes : (tree : Nodes) (low high : ℕ) → Nested low high tree → low + count tree ≤ high
few_nodes nothing low high h = omega arith
few_nodes (element name begin end inside rest) low high h = omega (arith, few_nodes inside (suc begin) end h.2, few_nodes rest end high h.3)
few_nodes (chars begin end rest) low high h = omega (arith, few_nodes rest end high h.2)

many_rows : (tree : Nodes) (up n : ℕ) → length (rows up n tree) ≡ count tree
many_rows nothing up n = refl
many_rows (element name begin end inside rest) up n =
    omega (arith, length-append (rows n (suc n) inside) (rows up (suc n + count inside) rest), many_rows inside n (suc n), many_rows rest up (suc n + count inside))
many_rows (chars begin end rest) up n = omega (arith, many_rows rest up (suc n))

-- EVERY NODE BEGINS WITHIN THE TEXT, so the name that is lacking does.
abbrev Begin : ℕ → List Row → Type 0
Begin most [] = Unit
Begin most (r ∷ rs) = (r.begin ≤ most) × Begin most rs

begin_append : (most : ℕ) (xs ys : List Row) → Begin most xs → Begin most ys → Begin most (xs ++ ys)
begin_append most [] ys h k = k
begin_append most (x ∷ xs) ys h k = (h.0, begin_append most xs ys h.1 k)

rows_begin : (tree : Nodes) (low high most up n : ℕ) → high ≤ most → Nested low high tree → Begin most (rows up n tree)
rows_begin nothing low high most up n l h = tt
rows_begin (element name begin end inside rest) low high most up n l h =
    let last = few_nodes rest end high h.3 in (
      omega (arith, h.1),
      begin_append most (rows n (suc n) inside) (rows up (suc n + count inside) rest) (rows_begin inside (suc begin) end most n (suc n) (omega arith) h.2) (rows_begin rest end high most up (suc n + count inside) l h.3),
    )
rows_begin (chars begin end rest) low high most up n l h = let last = few_nodes rest end high h.2 in (omega (arith, h.1), rows_begin rest end high most up (suc n) l h.2)

lacking_begins : (look : List ℕ → Option ℕ) (rs : List Row) (most place : ℕ) → Begin most rs → unnamed look rs ≡ some place → place ≤ suc most
lacking_begins look [] most place h e = none-some e
lacking_begins look (r ∷ rs) most place h e =
    chosen (lacks look r.what) e (λ c f. subst (λ p. p ≤ suc most) (some_inj f) (omega (arith, h.0))) (λ c f. lacking_begins look rs most place h.1 f)

-- THE ANSWER.
pub read_xml_small : (text list : List ℕ) (parent_room kind_room begin_room end_room : ℕ) → Small (read_xml_answer text list parent_room kind_room begin_room end_room)
unfolding read_xml_answer read_xml
read_xml_small text list parent_room kind_room begin_room end_room =
    let long = too_long text text_limit in
    let many = too_long list list_limit in
    let kinds = not (eqb kind_room parent_room) in
    let begins = not (eqb begin_room parent_room) in
    let ends = not (eqb end_room parent_room) in
    small_when 1 0 (long || many || kinds || begins || ends) _ (omega arith)
    (λ h.
    let two = or_none long many (or_none (long || many) kinds (or_none (long || many || kinds) begins (or_none (long || many || kinds || begins) ends h).0).0).0 in
    let short : length text ≤ text_limit = ltb-false text_limit (length text) two.0 in
    let listed : length list ≤ list_limit = ltb-false list_limit (length list) two.1 in
    small_line 2 (names_fault list) _ (λ p e. omega (arith, fault_within list p e))
    (judged short (read_xml text) refl (judge_placed text 0 (length text) (record { mode = start; frames = [] }) (omega arith))))
  where
    judged : length text ≤ text_limit → (j : Judged) → read_xml text ≡ j → Placed (length text) j → Small (line_xml j (λ tree. read_xml_last list parent_room (table (length text) tree)))
    judged short (unwanted number place) e h = omega arith
    judged short (wanted tree) e h =
        let nests = tree_nests text tree e in
        let lines = table (length text) tree in
        let few : length lines < 4294967296 = omega (arith, few_nodes tree 0 (length text) nests, many_rows tree 0 1) in
        small_line 5 (unnamed (number_of (names_of list)) lines) (line 10 (short_of_nodes parent_room (length lines)) (value (length lines)))
        (λ p f. omega (arith, lacking_begins (number_of (names_of list)) lines (length text) p (omega arith, rows_begin tree 0 (length text) (length text) 0 1 (omega arith) nests) f))
        (small_room (length lines) (ltb parent_room (length lines) || ltb node_limit (length lines)) few)
