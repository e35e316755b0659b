-- Samples of 02, 2026-14: whole inputs with what is printed of them, by computation.
use Rattle.std.specs.Prelude.{ℕ, Bool, ◌&&◌, cond, List, [], ◌∷◌, T}
use Prim.Native.String.{String}
use Rattle.paper.specs.Tools.{ascii, same}
use Rattle.paper.specs.Names.{names_fault, names_of, bad_line}
use Rattle.paper.specs.Tokens.{tokens, token_at}
use Rattle.paper.specs.Reading.{read_text, read_tail, read_tested, read_step, read_operand, read_term, read_expr, read_path}
use Rattle.paper.specs.Items.{path_at, step_at, encode, decode, take_operand, take_term, take_expr}
use Rattle.paper.specs.Measures.{size, nesting, height}
use Rattle.paper.specs.Document.{over, good_node, table_fault, good_mark, marks_fault}
use Rattle.paper.specs.Selection.{reaches, selects, keeps, kept}
use Rattle.paper.specs.Xml.{read_xml, left_out}
use Rattle.paper.specs.Answers.{read_answer, read_items, read_xml_answer, run_answer}
use Rattle.paper.specs.Program.{decimal}
use Rattle.paper.specs.Sheet.{all_of, kept_of, hidden_of, table_read, table_outcome, text_outcome, File, unreadable, holding, outcomes, tallied, sheet, sheet_prints}

-- Of three files two can be read, and one of these is no wanted text.
abbrev pub files : List ℕ → File
files name =
    cond (same name (ascii "f")) (holding (ascii "<a><b><c/></b><b/></a>"))
    (cond (same name (ascii "g")) (holding (ascii "<a>")) unreadable)

abbrev pub prints_of : String → String → Bool
prints_of input expected = same (sheet_prints files (ascii input)) (ascii expected)

-- Names without documents; documents that are refused, and an empty line among them; a last file name without LF; a list without its last LF; a view that is refused.
abbrev pub sheets : Bool
sheets =
    prints_of "/a/b[c]\na\nb\nc\n\nf\ng\nf\n\nh" "a 2 2 0\nb 4 2 2\nc 2 2 0\nsum 8 6 2\nrefused 11 1\nrefused 18 2\n" &&
    prints_of "/a/b[c]\nb\nc\na\n\nf" "b 2 1 1\nc 1 1 0\na 1 1 0\nsum 4 3 1\n" &&
    prints_of "/b\na\nb\n\nf\n" "a 0 0 0\nb 0 0 0\nsum 0 0 0\nrefused 5 1\n" &&
    prints_of "/\n\n" "sum 0 0 0\n" &&
    prints_of "/a\na\n" "a 0 0 0\nsum 0 0 0\n" &&
    prints_of "/a\nb" "refused view 2 0\n" &&
    prints_of "/a\n\nf\n" "refused view 5 1\n" &&
    prints_of "/a[\na\n\nf\n" "refused view 3 3\n" &&
    prints_of "/a\na\r\n\r\nf\n" "refused view 2 0\n" &&
    prints_of "" "refused view 3 0\n"

-- Where one document may be counted, the next one gets 10 and is counted there alone.
abbrev pub past_last : Bool
past_last =
    let view = read_items (ascii "/a/b[c]") 1 (ascii "a\nb\nc\n") in
    let two = outcomes view (ascii "a\nb\nc\n") 1 (files (ascii "f") ∷ files (ascii "f") ∷ []) in
    same (sheet (names_of (ascii "a\nb\nc\n")) two) (ascii "a 1 1 0\nb 2 1 1\nc 1 1 0\nsum 4 3 1\nrefused 10 1\n")

-- All of it is printed so.
pub sheets_hold : T (sheets && past_last)
unfolding decimal all_of kept_of hidden_of table_read table_outcome text_outcome tallied sheet sheet_prints read_answer read_items read_xml left_out read_xml_answer run_answer names_fault names_of bad_line tokens token_at read_text read_tail read_tested read_step read_operand read_term read_expr read_path path_at step_at encode decode take_operand take_term take_expr size nesting height over good_node table_fault good_mark marks_fault reaches selects keeps kept
sheets_hold = tt
