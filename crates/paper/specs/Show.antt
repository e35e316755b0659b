-- Beyond the requests: what a view writer sees of a file. For any input of the showing program, the bytes that it prints.
use Rattle.std.specs.Prelude.{ℕ, ◌+◌, ◌*◌, true, cond, List, [], ◌++◌, map, length}
use Rattle.paper.specs.Tools.{ascii, when}
use Rattle.paper.specs.Limits.{item_limit, node_limit, bracket_limit}
use Rattle.paper.specs.Items.{decode}
use Rattle.paper.specs.Document.{Table, nodes}
use Rattle.paper.specs.WriteXml.{kept_xml}
use Rattle.paper.specs.Answers.{Answer, value, line, too_long, read_answer, read_items, answers, begin_field, end_field, read_xml_answer, run_answer, kept_got, write_xml_answer}
use Rattle.paper.specs.Program.{first_line, after_line, unless_refused}
use Rattle.paper.specs.Sheet.{rows, table_read, all_marked, list_part, files_part}

-- Room for the file is 65,536 bytes.
abbrev pub file_room : ℕ
file_room = 65536

-- Scratch is 4,096 x 2 x 66 bytes: enough for a height of 65 on every table.
abbrev pub scratch_lent : ℕ
scratch_lent = node_limit * 2 * (bracket_limit + 2)

-- An input has at most 81,920 bytes.
abbrev pub show_limit : ℕ
show_limit = 81920

-- What is printed of a text whose nodes have these marks: the kept file and an LF.
unfoldable pub file_shows : List ℕ → List ℕ → Table → List ℕ → List ℕ → List ℕ → List ℕ
file_shows text list t begins ends marks =
    unless_refused "write" (write_xml_answer text list t begins ends marks file_room) (kept_xml text marks ++ ascii "\n")

-- Nothing, where a run keeps no node, and otherwise what the later parts print.
abbrev pub unless_nothing : Answer → List ℕ → List ℕ
unless_nothing ran later = cond (answers 0 ran) [] later

-- What is printed of a text that was read into these columns: the query is run with every mark 1.
unfoldable pub table_shows : List ℕ → List ℕ → List ℕ → Table → List ℕ → List ℕ → List ℕ
table_shows query list text t begins ends =
    let ran = run_answer query t (all_marked t) (nodes t) scratch_lent in
    unless_refused "run" ran
    (unless_nothing ran (file_shows text list t begins ends (kept_got t (all_marked t) (decode query))))

-- What is printed of a text, which is read as XML with these names.
unfoldable pub text_shows : List ℕ → List ℕ → List ℕ → List ℕ
text_shows query list text =
    unless_refused "text" (read_xml_answer text list node_limit node_limit node_limit node_limit)
    (table_shows query list text (table_read text list) (map begin_field (rows text)) (map end_field (rows text)))

-- What is printed of the text of a query, which is read by version 1 with a room of 4,096 items, and an XML text.
unfoldable pub query_shows : List ℕ → List ℕ → List ℕ → List ℕ
query_shows query list text =
    unless_refused "query" (read_answer query 1 list item_limit) (text_shows (read_items query 1 list) list text)

-- Input over 81,920 bytes is refused: input gives 1 and 0.
abbrev pub shown_input : List ℕ → Answer
shown_input input = line 1 (when (too_long input show_limit) 0) (value (length input))

-- WHAT THE SHOWING PROGRAM PRINTS: line 1 is the query, then come the names, a blank line, and the XML text.
unfoldable pub show_prints : List ℕ → List ℕ
show_prints input =
    unless_refused "input" (shown_input input)
    (query_shows (first_line input) (list_part true (after_line input)) (files_part true (after_line input)))
