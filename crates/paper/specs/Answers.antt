-- docs/SCOPE.md, "Numbers refused": for each entry point its answer and each lent slice at exit, for every input, as the first line that holds in the order of 01.
use Rattle.std.specs.Prelude.{ℕ, suc, ◌+◌, ◌*◌, Bool, false, not, ◌&&◌, ◌||◌, cond, List, [], ◌∷◌, map, eqb, leb, ltb, length, replicate}
use Rattle.std.proofs.Math.Option.{Option, none, some}
use Rattle.paper.specs.Tools.{when, written, same, some_below}
use Rattle.paper.specs.Limits.{text_limit, list_limit, item_limit, node_limit, bracket_limit}
use Rattle.paper.specs.Query.{Test, any_node, text_node, named, any_element, Query}
use Rattle.paper.specs.Names.{names_fault, names_of, number_of}
use Rattle.paper.specs.Reading.{Got, got, refused, read_text}
use Rattle.paper.specs.Items.{Head, step_at, encode, decode}
use Rattle.paper.specs.Measures.{size, nesting, height}
use Rattle.paper.specs.Printing.{printed}
use Rattle.paper.specs.Document.{Table, nodes, kind_of, element_kind, table_fault, marked, marks_fault}
use Rattle.paper.specs.Selection.{kept}
use Rattle.paper.specs.Extraction.{rank, extracted}
use Rattle.paper.specs.Composition.{composed}
use Rattle.paper.specs.Cut.{is_cut}
use Rattle.paper.specs.Xml.{Nodes, Judged, wanted, unwanted, read_xml, Row, table, kind_by, unnamed}
use Rattle.paper.specs.WriteXml.{kept_xml}

-- An answer is either the value or a refusal number with a place.
pub data Answer : Type 0 where
  value : ℕ → Answer
  refusal : ℕ → ℕ → Answer

-- One line of 01's table: this number at this place where the line holds, and otherwise what the later lines say.
abbrev pub line : ℕ → Option ℕ → Answer → Answer
line number none later = later
line number (some place) later = refusal number place

-- A line that holds where there is no query, and hands on the query where there is one.
abbrev pub line_query : ℕ → ℕ → Option Query → (Query → Answer) → Answer
line_query number place none later = refusal number place
line_query number place (some q) later = later q

-- What a slice holds at exit: what is written by an accepted call; a refused call writes nothing.
abbrev pub at_exit : Answer → List ℕ → List ℕ → List ℕ
at_exit (value n) new old = written new old
at_exit (refusal number place) new old = old

-- Refusal 1, at place 0.
abbrev pub too_long : List ℕ → ℕ → Bool
too_long xs limit = ltb limit (length xs)

-- Refusal 10: the number needed, where the room is short.
abbrev pub short : ℕ → ℕ → Option ℕ
short room needed = when (ltb room needed) needed

-- The same of items, of which there may be at most 4,096.
abbrev pub short_of_items : ℕ → ℕ → Option ℕ
short_of_items room needed = when (ltb room needed || ltb item_limit needed) needed

-- READ, by the version of XPath that the caller names (02, 2026-08). There are two; another is refusal 1.
abbrev pub is_newer : ℕ → Bool
is_newer version = eqb version 2

abbrev pub no_version : ℕ → Bool
no_version version = not (eqb version 1 || is_newer version)

-- What the syntax says of a text, with any names: refusal 3 or 4 by place.
abbrev pub any_name : List ℕ → Option ℕ
any_name word = some 0

abbrev pub line_got : Got Query → (Query → Answer) → Answer
line_got (refused number place) later = refusal number place
line_got (got q left) later = later q

-- Lines 5 and 10 of a text whose syntax is right.
abbrev pub read_last : Bool → List ℕ → List ℕ → ℕ → Answer
read_last newer text list room =
    line_got (read_text newer (number_of (names_of list)) text) (λ q. line 10 (short_of_items room (size q)) (value (size q)))

-- Read: 1, 2, then 3 or 4 by place, 5, 10; it answers the number of items.
unfoldable pub read_answer : List ℕ → ℕ → List ℕ → ℕ → Answer
read_answer text version list room =
    line 1 (when (too_long text text_limit || too_long list list_limit || no_version version) 0)
    (line 2 (names_fault list)
    (line_got (read_text (is_newer version) any_name text) (λ q. read_last (is_newer version) text list room)))

-- The items of a text.
abbrev pub items_got : Got Query → List ℕ
items_got (refused number place) = []
items_got (got q left) = encode q

unfoldable pub read_items : List ℕ → ℕ → List ℕ → List ℕ
read_items text version list = items_got (read_text (is_newer version) (number_of (names_of list)) text)

unfoldable pub read_out : List ℕ → ℕ → List ℕ → List ℕ → List ℕ
read_out text version list out = at_exit (read_answer text version list (length out)) (read_items text version list) out

-- PRINT. Does the item name what the list has no name for?
abbrev pub unknown_test : ℕ → Test → Bool
unknown_test count any_node = false
unknown_test count text_node = false
unknown_test count (named v) = leb count v
unknown_test count any_element = false

abbrev pub unknown_item : ℕ → Option Head → Bool
unknown_item count none = false
unknown_item count (some h) = unknown_test count h.test

-- The index of the first such item, counting from `at`.
abbrev pub unknown_from : ℕ → ℕ → List ℕ → Option ℕ
unknown_from count at [] = none
unknown_from count at (w ∷ ws) = let later = unknown_from count (suc at) ws in cond (unknown_item count (step_at w)) (some at) later

-- Print, in either form: 1, 2, 6, 5, 10; it answers the number of bytes.
unfoldable pub print_answer : Bool → List ℕ → List ℕ → ℕ → Answer
print_answer brief query list room =
    line 1 (when (too_long query item_limit || too_long list list_limit) 0)
    (line 2 (names_fault list)
    (line_query 6 0 (decode query)
    (λ q.
    line 5 (unknown_from (length (names_of list)) 0 query)
    (let needed = length (printed brief (names_of list) q) in line 10 (short room needed) (value needed)))))

-- The text of items.
abbrev pub text_got : Bool → List (List ℕ) → Option Query → List ℕ
text_got brief names none = []
text_got brief names (some q) = printed brief names q

unfoldable pub print_out : Bool → List ℕ → List ℕ → List ℕ → List ℕ
print_out brief query list out =
    at_exit (print_answer brief query list (length out)) (text_got brief (names_of list) (decode query)) out

-- COMPOSE: 1, 6 (outer first), 9, 10; it answers the number of items. The way to make one query of two is an argument.
abbrev pub composing_answer : (Query → Query → Query) → List ℕ → List ℕ → ℕ → Answer
composing_answer makes outer inner room =
    line 1 (when (too_long outer item_limit || too_long inner item_limit) 0)
    (line_query 6 0 (decode outer)
    (λ o.
    line_query 6 1 (decode inner)
    (λ i.
    let q = makes o i in
    line 9 (when (ltb bracket_limit (nesting q)) (nesting q))
    (line 10 (short_of_items room (size q)) (value (size q))))))

unfoldable pub compose_answer : List ℕ → List ℕ → ℕ → Answer
compose_answer outer inner room = composing_answer composed outer inner room

-- The items of a composition.
abbrev pub made_got : (Query → Query → Query) → Option Query → Option Query → List ℕ
made_got makes none i = []
made_got makes (some o) none = []
made_got makes (some o) (some i) = encode (makes o i)

abbrev pub composed_got : Option Query → Option Query → List ℕ
composed_got o i = made_got composed o i

abbrev pub composing_out : (Query → Query → Query) → List ℕ → List ℕ → List ℕ → List ℕ
composing_out makes outer inner out = at_exit (composing_answer makes outer inner (length out)) (made_got makes (decode outer) (decode inner)) out

unfoldable pub compose_out : List ℕ → List ℕ → List ℕ → List ℕ
compose_out outer inner out = at_exit (compose_answer outer inner (length out)) (composed_got (decode outer) (decode inner)) out

-- RUN. Room means scratch of nodes x 2 x (height + 1) bytes.
abbrev pub scratch_of : Table → Query → ℕ
scratch_of t q = nodes t * 2 * (height q + 1)

-- How many nodes are marked.
abbrev pub marked_count : Table → List ℕ → ℕ
marked_count t marks = rank marks (nodes t)

-- Run: 1, 6, 7, 8, 10; it answers the number of nodes kept.
unfoldable pub run_answer : List ℕ → Table → List ℕ → ℕ → ℕ → Answer
run_answer query t given marks_room scratch_room =
    line 1
    (when
    (too_long query item_limit || ltb node_limit (nodes t) || not (eqb (length t.kinds) (nodes t)) || not (eqb (length given) (nodes t)) || not (eqb marks_room (nodes t)))
    0)
    (line_query 6 0 (decode query)
    (λ q.
    line 7 (table_fault t)
    (line 8 (marks_fault t given)
    (line 10 (short scratch_room (scratch_of t q)) (value (marked_count t (kept t given q)))))))

-- The marks of a run.
abbrev pub kept_got : Table → List ℕ → Option Query → List ℕ
kept_got t given none = []
kept_got t given (some q) = kept t given q

unfoldable pub run_marks : List ℕ → Table → List ℕ → List ℕ → ℕ → List ℕ
run_marks query t given marks scratch_room =
    at_exit (run_answer query t given (length marks) scratch_room) (kept_got t given (decode query)) marks

-- That part of the scratch is zero after an accepted run and the rest is untouched.
abbrev pub zeros_got : Table → Option Query → List ℕ
zeros_got t none = []
zeros_got t (some q) = replicate (scratch_of t q) 0

unfoldable pub run_scratch : List ℕ → Table → List ℕ → ℕ → List ℕ → List ℕ
run_scratch query t given marks_room scratch =
    at_exit (run_answer query t given marks_room (length scratch)) (zeros_got t (decode query)) scratch

-- EXTRACT: 1, 7, 8, 10; it answers the number of marked nodes. The columns written are of one length too.
unfoldable pub extract_answer : Table → List ℕ → ℕ → ℕ → Answer
extract_answer t marks parent_room kind_room =
    line 1
    (when
    (ltb node_limit (nodes t) || not (eqb (length t.kinds) (nodes t)) || not (eqb (length marks) (nodes t)) || not (eqb parent_room kind_room))
    0)
    (line 7 (table_fault t)
    (line 8 (marks_fault t marks)
    (line 10 (short parent_room (marked_count t marks)) (value (marked_count t marks)))))

unfoldable pub extract_parents : Table → List ℕ → List ℕ → ℕ → List ℕ
extract_parents t marks out kind_room = at_exit (extract_answer t marks (length out) kind_room) (extracted t marks).parents out

unfoldable pub extract_kinds : Table → List ℕ → ℕ → List ℕ → List ℕ
extract_kinds t marks parent_room out = at_exit (extract_answer t marks parent_room (length out)) (extracted t marks).kinds out

-- READ XML (02, 2026-01). What a text is, with any names: refusal 12 or 11, whichever comes first.
abbrev pub line_xml : Judged → (Nodes → Answer) → Answer
line_xml (unwanted number place) later = refusal number place
line_xml (wanted tree) later = later tree

-- Refusal 10 of nodes, of which there may be at most 4,096.
abbrev pub short_of_nodes : ℕ → ℕ → Option ℕ
short_of_nodes room needed = when (ltb room needed || ltb node_limit needed) needed

-- The lines of the table of a text.
abbrev pub rows_got : ℕ → Judged → List Row
rows_got long (unwanted number place) = []
rows_got long (wanted tree) = table long tree

-- Lines 5 and 10 of a wanted text: the root is a node too.
abbrev pub read_xml_last : List ℕ → ℕ → List Row → Answer
read_xml_last list room lines =
    line 5 (unnamed (number_of (names_of list)) lines) (line 10 (short_of_nodes room (length lines)) (value (length lines)))

-- Read XML: 1, 2, then 12 or 11 by place, 5, 10; it answers the number of nodes. The four columns written are of one length.
unfoldable pub read_xml_answer : List ℕ → List ℕ → ℕ → ℕ → ℕ → ℕ → Answer
read_xml_answer text list parent_room kind_room begin_room end_room =
    line 1
    (when
    (too_long text text_limit || too_long list list_limit || not (eqb kind_room parent_room) || not (eqb begin_room parent_room) || not (eqb end_room parent_room))
    0)
    (line 2 (names_fault list) (line_xml (read_xml text) (λ tree. read_xml_last list parent_room (table (length text) tree))))

-- What each line of the table says in the four columns.
abbrev pub parent_field : Row → ℕ
parent_field r = r.parent

abbrev pub kind_field : List ℕ → Row → ℕ
kind_field list r = kind_by (number_of (names_of list)) r.what

abbrev pub begin_field : Row → ℕ
begin_field r = r.begin

abbrev pub end_field : Row → ℕ
end_field r = r.end

-- A column at exit of a call that answers so, by what it has of each line.
unfoldable pub read_xml_column : (Row → ℕ) → List ℕ → Answer → List ℕ → List ℕ
read_xml_column field text answer out = at_exit answer (map field (rows_got (length text) (read_xml text))) out

-- IS CUT (02, 2026-11): 1 for either table, its partner column of original numbers included, then 7 for ours; it answers 1 for yes and 0 for no.
unfoldable pub is_cut_answer : Table → Table → List ℕ → Answer
is_cut_answer t cut numbers =
    line 1
    (when
    (ltb node_limit (nodes t) || not (eqb (length t.kinds) (nodes t)) || ltb node_limit (nodes cut) || not (eqb (length cut.kinds) (nodes cut)) || not (eqb (length numbers) (nodes cut)))
    0)
    (line 7 (table_fault t) (value (cond (is_cut t cut numbers) 1 0)))

-- WRITE XML (02, 2026-02). Is an element marked?
abbrev pub element_marked : Table → List ℕ → Bool
element_marked t marks = some_below (nodes t) (λ i. marked marks i && leb element_kind (kind_of t i))

-- Does a call answer this number?
abbrev pub answers : ℕ → Answer → Bool
answers n (value m) = eqb m n
answers n (refusal number place) = false

-- Does reading the text with this list give exactly these nodes, parents, kinds and places?
unfoldable pub reads_as : List ℕ → List ℕ → Table → List ℕ → List ℕ → Bool
reads_as text list t begins ends =
    let answer = read_xml_answer text list (nodes t) (length t.kinds) (length begins) (length ends) in
    answers (nodes t) answer
    && same (read_xml_column parent_field text answer t.parents) t.parents
    && same (read_xml_column (kind_field list) text answer t.kinds) t.kinds
    && same (read_xml_column begin_field text answer begins) begins
    && same (read_xml_column end_field text answer ends) ends

-- Write XML: 1, 2, 7, 8, 13, 14, 10; it answers the number of bytes. The four columns and the marks are of one length.
unfoldable pub write_xml_answer : List ℕ → List ℕ → Table → List ℕ → List ℕ → List ℕ → ℕ → Answer
write_xml_answer text list t begins ends marks room =
    line 1
    (when
    (too_long text text_limit || too_long list list_limit || ltb node_limit (nodes t) || not (eqb (length t.kinds) (nodes t)) || not (eqb (length begins) (nodes t))
    || not (eqb (length ends) (nodes t)) || not (eqb (length marks) (nodes t)))
    0)
    (line 2 (names_fault list)
    (line 7 (table_fault t)
    (line 8 (marks_fault t marks)
    (line 13 (when (not (element_marked t marks)) 0)
    (line 14 (when (not (reads_as text list t begins ends)) 0)
    (let needed = length (kept_xml text marks) in line 10 (short room needed) (value needed)))))))

unfoldable pub write_xml_out : List ℕ → List ℕ → Table → List ℕ → List ℕ → List ℕ → List ℕ → List ℕ
write_xml_out text list t begins ends marks out = at_exit (write_xml_answer text list t begins ends marks (length out)) (kept_xml text marks) out
