-- 02, 2026-14: what each view shows. For each name of a list, how many elements there were in documents, how many a view kept and how many it hid, and the sheet that says so.
use Rattle.std.specs.Prelude.{ℕ, zero, suc, ◌+◌, Bool, true, not, ◌&&◌, cond, List, [], ◌∷◌, ◌++◌, map, eqb, length, replicate}
use Rattle.paper.specs.Tools.{ascii}
use Rattle.paper.specs.Limits.{item_limit, node_limit}
use Rattle.paper.specs.Names.{lines_from, names_of}
use Rattle.paper.specs.Items.{decode}
use Rattle.paper.specs.Document.{Table, table_of, nodes, kind_of, element_kind, marked}
use Rattle.paper.specs.Xml.{read_xml, Row}
use Rattle.paper.specs.Answers.{Answer, value, refusal, read_answer, read_items, rows_got, parent_field, kind_field, read_xml_answer, run_answer, kept_got}
use Rattle.paper.specs.Program.{first_line, after_line, decimal, unless_refused}

-- How many numbers below n pass the test?
abbrev pub count_below : ℕ → (ℕ → Bool) → ℕ
count_below zero test = 0
count_below (suc n) test = let earlier = count_below n test in cond (test n) (suc earlier) earlier

-- Is the node an element of this name?
abbrev pub has_name : Table → ℕ → ℕ → Bool
has_name t v i = eqb (kind_of t i) (element_kind + v)

-- How many elements of a name a table has, how many of them are marked, and how many are not.
abbrev pub Count : Type 0
Count = Table → List ℕ → ℕ → ℕ

unfoldable pub all_of : Count
all_of t marks v = count_below (nodes t) (has_name t v)

unfoldable pub kept_of : Count
kept_of t marks v = count_below (nodes t) (λ i. has_name t v i && marked marks i)

unfoldable pub hidden_of : Count
hidden_of t marks v = count_below (nodes t) (λ i. has_name t v i && not (marked marks i))

-- What becomes of a document: a table with the marks of what the view keeps of it, or the number of a refusal.
pub data Outcome : Type 0 where
  shown : Table → List ℕ → Outcome
  turned_down : ℕ → Outcome

-- The number of a refusal, or what the later work comes to.
abbrev pub unless_turned_down : Answer → Outcome → Outcome
unless_turned_down (value n) later = later
unless_turned_down (refusal number place) later = turned_down number

-- The lines of the table of an XML text, and its parents and kinds.
abbrev pub rows : List ℕ → List Row
rows text = rows_got (length text) (read_xml text)

unfoldable pub table_read : List ℕ → List ℕ → Table
table_read text list = table_of (map parent_field (rows text)) (map (kind_field list) (rows text))

abbrev pub all_marked : Table → List ℕ
all_marked t = replicate (nodes t) 1

-- Scratch is 65,536 bytes.
abbrev pub scratch_room : ℕ
scratch_room = 65536

-- The view is run on a document's table with every mark 1.
unfoldable pub table_outcome : List ℕ → Table → Outcome
table_outcome view t =
    unless_turned_down (run_answer view t (all_marked t) (nodes t) scratch_room) (shown t (kept_got t (all_marked t) (decode view)))

-- A document's text is read as XML with these names, and the view is run on its table.
unfoldable pub text_outcome : List ℕ → List ℕ → List ℕ → Outcome
text_outcome view list text =
    unless_turned_down (read_xml_answer text list node_limit node_limit node_limit node_limit) (table_outcome view (table_read text list))

-- What a file name leads to: a file that can't be read, or the bytes of one.
pub data File : Type 0 where
  unreadable : File
  holding : List ℕ → File

-- Refusal 18: a file that can't be read.
abbrev pub file_outcome : List ℕ → List ℕ → File → Outcome
file_outcome view list unreadable = turned_down 18
file_outcome view list (holding text) = text_outcome view list text

-- Documents are counted up to the 65,535th.
abbrev pub document_limit : ℕ
document_limit = 65535

-- The outcomes of files, of which so many may still be counted; each past these gets 10.
abbrev pub outcomes : List ℕ → List ℕ → ℕ → List File → List Outcome
outcomes view list left [] = []
outcomes view list zero (f ∷ fs) = turned_down 10 ∷ outcomes view list zero fs
outcomes view list (suc left) (f ∷ fs) = file_outcome view list f ∷ outcomes view list left fs

-- What a document adds to a sum over its elements: a refused one adds nothing.
abbrev pub adds : Count → ℕ → Outcome → ℕ
adds counts v (shown t marks) = counts t marks v
adds counts v (turned_down number) = 0

-- What it adds to the line of a refusal number.
abbrev pub adds_refusal : ℕ → Outcome → ℕ
adds_refusal number (shown t marks) = 0
adds_refusal number (turned_down given) = cond (eqb given number) 1 0

-- The sum over all documents.
abbrev pub sum_over : (Outcome → ℕ) → List Outcome → ℕ
sum_over f [] = 0
sum_over f (o ∷ os) = f o + sum_over f os

-- The sum of the first n numbers.
abbrev pub sum_below : ℕ → (ℕ → ℕ) → ℕ
sum_below zero f = 0
sum_below (suc n) f = sum_below n f + f n

-- Refusal numbers go up to 18.
abbrev pub number_limit : ℕ
number_limit = 18

-- `NAME ALL KEPT HIDDEN`.
abbrev pub sheet_line : List ℕ → ℕ → ℕ → ℕ → List ℕ
sheet_line name all kept hidden =
    name ++ ascii " " ++ decimal all ++ ascii " " ++ decimal kept ++ ascii " " ++ decimal hidden ++ ascii "\n"

-- `refused NUMBER COUNT`, for a number that was met.
abbrev pub refused_line : ℕ → ℕ → List ℕ
refused_line number count = cond (eqb count 0) [] (ascii "refused " ++ decimal number ++ ascii " " ++ decimal count ++ ascii "\n")

-- The lines of the numbers below n, rising.
abbrev pub refused_lines : ℕ → (ℕ → ℕ) → List ℕ
refused_lines zero refused = []
refused_lines (suc n) refused = refused_lines n refused ++ refused_line n (refused n)

module _ (all kept hidden : ℕ → ℕ) where
  -- A line for each name, of which the first has the number v.
  abbrev pub name_lines : ℕ → List (List ℕ) → List ℕ
  name_lines v [] = []
  name_lines v (name ∷ names) = sheet_line name (all v) (kept v) (hidden v) ++ name_lines (suc v) names

  -- What is printed of three numbers for each name, and of how often each refusal number was given.
  unfoldable pub tallied : List (List ℕ) → (ℕ → ℕ) → List ℕ
  tallied names refused =
      let n = length names in
      name_lines 0 names ++ sheet_line (ascii "sum") (sum_below n all) (sum_below n kept) (sum_below n hidden)
      ++ refused_lines (suc number_limit) refused

-- THE SHEET of documents with these outcomes.
unfoldable pub sheet : List (List ℕ) → List Outcome → List ℕ
sheet names os =
    tallied (λ v. sum_over (adds all_of v) os) (λ v. sum_over (adds kept_of v) os) (λ v. sum_over (adds hidden_of v) os) names
    (λ number. sum_over (adds_refusal number) os)

-- The name list of an input ends before an LF right behind an LF, that of line 1 included; does a line start here?
abbrev pub list_part : Bool → List ℕ → List ℕ
list_part starts [] = []
list_part starts (b ∷ bs) = let later = b ∷ list_part (eqb b 10) bs in cond (starts && eqb b 10) [] later

-- What follows that LF: one file name a line.
abbrev pub files_part : Bool → List ℕ → List ℕ
files_part starts [] = []
files_part starts (b ∷ bs) = let later = files_part (eqb b 10) bs in cond (starts && eqb b 10) bs later

-- The lines of bytes, without the LF that ends each; a last one without LF counts.
abbrev pub lines_of : List ℕ → List (List ℕ)
lines_of bytes = map (λ l. l.says) (lines_from 0 bytes)

-- WHAT THE PROGRAM PRINTS for an input, where file names lead to these files: the view is read by version 1 with a room of 4,096 items.
unfoldable pub sheet_prints : (List ℕ → File) → List ℕ → List ℕ
sheet_prints files input =
    let view = first_line input in
    let list = list_part true (after_line input) in
    unless_refused "view" (read_answer view 1 list item_limit)
    (sheet (names_of list) (outcomes (read_items view 1 list) list document_limit (map files (lines_of (files_part true (after_line input))))))
