-- What a written file owes; the proofs are in proofs/.
use Rattle.std.specs.Prelude.{ℕ, zero, suc, ◌+◌, ◌≤◌, ◌<◌, ◌≡◌, Bool, true, false, ◌&&◌, cond, List, ◌++◌, map, eqb, length, get_or, take, drop}
use Rattle.std.proofs.Math.Option.{none}
use Rattle.paper.specs.Tools.{ascii, run_of, column}
use Rattle.paper.specs.Limits.{text_limit}
use Rattle.paper.specs.Query.{Query}
use Rattle.paper.specs.Names.{name_part, names_fault, names_of, number_of}
use Rattle.paper.specs.Document.{Table, nodes, table_of, parent_of, kind_of, marked, marks_fault}
use Rattle.paper.specs.Selection.{kept}
use Rattle.paper.specs.Extraction.{rank, extracted}
use Rattle.paper.specs.Composition.{composed}
use Rattle.paper.specs.Xml.{Nodes, nothing, element, chars, wanted, read_xml, starts, What, table, unnamed}
use Rattle.paper.specs.WriteXml.{pruned, bytes_at, escaped, kept_xml}
use Rattle.paper.specs.Answers.{value, parent_field, kind_field, read_xml_answer, element_marked, write_xml_answer, write_xml_out}
use Rattle.theorems.specs.Demands.{all_marked, view}
use Rattle.xml_theorems.specs.Tables.{line_at, written_table}

-- The parents and kinds of a tree, whose text has so many bytes.
abbrev pub columns_of : List ℕ → ℕ → Nodes → Table
columns_of list long tree = table_of (map parent_field (table long tree)) (map (kind_field list) (table long tree))

-- Is the node a text right behind a text with the same parent? (Text has no children, so the node before it is its neighbour.)
abbrev pub follows_text : Table → ℕ → Bool
follows_text t zero = false
follows_text t (suc i) = eqb (kind_of t (suc i)) 1 && eqb (kind_of t i) 1 && eqb (parent_of t (suc i)) (parent_of t i)

-- A table with each row of texts side by side made one: the first of them stays.
abbrev pub first_texts : Table → List ℕ
first_texts t = column (nodes t) (λ i. cond (follows_text t i) 0 1)

unfoldable pub merged : Table → Table
merged t = extracted t (first_texts t)

-- THE PARTS of a text apart from places: its elements with their names, and the bytes of each run of texts side by side.
pub data Parts : Type 0 where
  end : Parts
  tag : List ℕ → Parts → Parts → Parts
  run : List ℕ → Parts → Parts

-- Bytes of text before other parts, as one run with those that come first.
abbrev pub before : List ℕ → Parts → Parts
before bytes end = run bytes end
before bytes (tag name inside rest) = run bytes (tag name inside rest)
before bytes (run more rest) = run (bytes ++ more) rest

abbrev pub parts_of : List ℕ → Nodes → Parts
parts_of text nothing = end
parts_of text (element name from past inside rest) = tag name (parts_of text inside) (parts_of text rest)
parts_of text (chars from past rest) = before (bytes_at text from past) (parts_of text rest)

-- Each run escaped.
abbrev pub escaped_runs : Parts → Parts
escaped_runs end = end
escaped_runs (tag name inside rest) = tag name (escaped_runs inside) (escaped_runs rest)
escaped_runs (run bytes rest) = run (escaped 0 bytes) (escaped_runs rest)

-- WRITTEN PARTS: of a text that is read, with marks without fault among which an element's is, what is written is a wanted text
-- whose parts are those of the marked nodes, each run escaped.
abbrev pub WrittenParts : Type 0
WrittenParts =
    (text list marks : List ℕ) (tree : Nodes) → read_xml text ≡ wanted tree
    → marks_fault (columns_of list (length text) tree) marks ≡ none → element_marked (columns_of list (length text) tree) marks ≡ true
    → (back : Nodes) × (read_xml (kept_xml text marks) ≡ wanted back) × (parts_of (kept_xml text marks) back ≡ escaped_runs (parts_of text (pruned marks 1 tree)))

-- READ BACK: of a text that is read, with marks without fault among which an element's is, what is written is read again, with the same names,
-- as the extracted table of the marks with each row of texts side by side made one.
abbrev pub ReadBack : Type 0
ReadBack =
    (text list marks : List ℕ) (tree : Nodes) → read_xml text ≡ wanted tree → unnamed (number_of (names_of list)) (table (length text) tree) ≡ none
    → marks_fault (columns_of list (length text) tree) marks ≡ none → element_marked (columns_of list (length text) tree) marks ≡ true
    → (back : Nodes)
    × (read_xml (kept_xml text marks) ≡ wanted back)
    × (unnamed (number_of (names_of list)) (table (length (kept_xml text marks)) back) ≡ none)
    × (columns_of list (length (kept_xml text marks)) back ≡ merged (extracted (columns_of list (length text) tree) marks))

-- READ BACK, over answers: where writing answers with at most 32,768 bytes, these are read again, with the same list into columns of one length
-- that have room for as many nodes, and the parents and kinds written are that table.
abbrev pub ReadBackAnswers : Type 0
ReadBackAnswers =
    (text list parents kinds begins ends marks out : List ℕ) (n : ℕ) → write_xml_answer text list (table_of parents kinds) begins ends marks (length out) ≡ value n → n ≤ text_limit
    → (ps ks bs es : List ℕ) → length parents ≤ length ps → length ks ≡ length ps → length bs ≡ length ps → length es ≡ length ps
    → (m : ℕ)
    × (read_xml_answer (take n (write_xml_out text list (table_of parents kinds) begins ends marks out)) list (length ps) (length ks) (length bs) (length es) ≡ value m)
    × (written_table (take n (write_xml_out text list (table_of parents kinds) begins ends marks out)) list ps ks m ≡ merged (extracted (table_of parents kinds) marks))

-- A text that is read with names of the list, and marks without fault on its table.
pub record Cut (list text : List ℕ) (tree : Nodes) (marks : List ℕ) : Type 0 where
  pub read : read_xml text ≡ wanted tree
  pub named : unnamed (number_of (names_of list)) (table (length text) tree) ≡ none
  pub fine : marks_fault (columns_of list (length text) tree) marks ≡ none

-- EQUAL BYTES: a kept text of the one and the kept node of the other that has its new number have the same bytes.
abbrev pub EqualBytes : List ℕ → Nodes → List ℕ → List ℕ → Nodes → List ℕ → Type 0
EqualBytes text tree marks text' tree' marks' =
    (i j : ℕ) → i < length (table (length text) tree) → j < length (table (length text') tree') → marked marks i ≡ true → marked marks' j ≡ true
    → rank marks i ≡ rank marks' j → (line_at (table (length text) tree) i).what ≡ What.text
    → bytes_at text (line_at (table (length text) tree) i).begin (line_at (table (length text) tree) i).end
    ≡ bytes_at text' (line_at (table (length text') tree') j).begin (line_at (table (length text') tree') j).end

-- SAME FILE: equal sub-documents with equal bytes of text give the same file,
abbrev pub SameFile : Type 0
SameFile =
    (list text text' marks marks' : List ℕ) (tree tree' : Nodes) → names_fault list ≡ none → Cut list text tree marks → Cut list text' tree' marks'
    → extracted (columns_of list (length text) tree) marks ≡ extracted (columns_of list (length text') tree') marks'
    → EqualBytes text tree marks text' tree' marks' → kept_xml text marks ≡ kept_xml text' marks'

-- What a query keeps of a whole document.
abbrev pub shown : Table → Query → List ℕ
shown t q = kept t (all_marked t) q

-- and so of two documents that the inner query shows alike, with equal bytes of text, the composed query gives the same file.
abbrev pub SecretFile : Type 0
SecretFile =
    (list text text' : List ℕ) (tree tree' : Nodes) (outer inner : Query) → names_fault list ≡ none
    → Cut list text tree (shown (columns_of list (length text) tree) inner) → Cut list text' tree' (shown (columns_of list (length text') tree') inner)
    → view (columns_of list (length text) tree) inner ≡ view (columns_of list (length text') tree') inner
    → EqualBytes text tree (shown (columns_of list (length text) tree) inner) text' tree' (shown (columns_of list (length text') tree') inner)
    → kept_xml text (shown (columns_of list (length text) tree) (composed outer inner)) ≡ kept_xml text' (shown (columns_of list (length text') tree') (composed outer inner))

-- The same by the columns of places: kept texts with one new number have the same bytes.
abbrev pub EqualTexts : List ℕ → Table → List ℕ → List ℕ → List ℕ → List ℕ → Table → List ℕ → List ℕ → List ℕ → Type 0
EqualTexts text t begins ends marks text' t' begins' ends' marks' =
    (i j : ℕ) → i < nodes t → j < nodes t' → marked marks i ≡ true → marked marks' j ≡ true → rank marks i ≡ rank marks' j → kind_of t i ≡ 1
    → bytes_at text (get_or begins i 0) (get_or ends i 0) ≡ bytes_at text' (get_or begins' j 0) (get_or ends' j 0)

-- SECRECY OF FILES, over answers: where writing what the composed query keeps is accepted of both documents, it answers the same number and leaves the same bytes.
abbrev pub SecretAnswers : Type 0
SecretAnswers =
    (list text begins ends out text' begins' ends' out' : List ℕ) (t t' : Table) (outer inner : Query) (n n' : ℕ)
    → write_xml_answer text list t begins ends (shown t (composed outer inner)) (length out) ≡ value n
    → write_xml_answer text' list t' begins' ends' (shown t' (composed outer inner)) (length out') ≡ value n'
    → view t inner ≡ view t' inner → EqualTexts text t begins ends (shown t inner) text' t' begins' ends' (shown t' inner)
    → (n ≡ n')
    × (take n (write_xml_out text list t begins ends (shown t (composed outer inner)) out)
    ≡ take n' (write_xml_out text' list t' begins' ends' (shown t' (composed outer inner)) out'))

-- NAMES STAND: an element's name is all the bytes of a name right behind the `<` at which it begins, so that a writer finds it in the text.
abbrev pub NamesStand : Type 0
NamesStand =
    (text : List ℕ) (tree : Nodes) → read_xml text ≡ wanted tree
    → (i : ℕ) (name : List ℕ) → i < length (table (length text) tree) → (line_at (table (length text) tree) i).what ≡ What.named name
    → bytes_at text (suc (line_at (table (length text) tree) i).begin)
    (suc (line_at (table (length text) tree) i).begin + run_of name_part (drop (suc (line_at (table (length text) tree) i).begin) text))
    ≡ name

-- NO MARKS END: nowhere in what is written do the bytes `]]>` stand in a row.
abbrev pub NoMarksEnd : Type 0
NoMarksEnd = (text marks : List ℕ) (at : ℕ) → starts (ascii "]]>") (drop at (kept_xml text marks)) ≡ false
