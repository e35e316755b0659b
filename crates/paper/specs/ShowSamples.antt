-- Samples of the showing program: whole inputs with what is printed of them, by computation.
use Prim.Native.String.{String}
use Rattle.std.specs.Prelude.{Bool, ◌&&◌, T}
use Rattle.paper.specs.Tools.{ascii, same}
use Rattle.paper.specs.Names.{names_fault, names_of, bad_line}
use Rattle.paper.specs.Tokens.{tokens, token_at}
use Rattle.paper.specs.Reading.{read_text, read_tail, read_tested, read_step, read_operand, read_term, read_expr, read_path}
use Rattle.paper.specs.Items.{path_at, step_at, encode, decode, take_operand, take_term, take_expr}
use Rattle.paper.specs.Measures.{size, nesting, height}
use Rattle.paper.specs.Document.{over, good_node, table_fault, good_mark, marks_fault}
use Rattle.paper.specs.Selection.{reaches, selects, keeps, kept}
use Rattle.paper.specs.Xml.{read_xml, left_out}
use Rattle.paper.specs.WriteXml.{kept_xml}
use Rattle.paper.specs.Answers.{read_answer, read_items, read_xml_answer, read_xml_column, run_answer, reads_as, write_xml_answer}
use Rattle.paper.specs.Program.{decimal}
use Rattle.paper.specs.Sheet.{table_read}
use Rattle.paper.specs.Show.{file_shows, table_shows, text_shows, query_shows, show_prints}

abbrev pub shows_of : String → String → Bool
shows_of input expected = same (show_prints (ascii input)) (ascii expected)

-- A part, all, and nothing of a file; an LF inside the text stays; a refusal of the query comes before one of the text; without a blank line the text is empty.
abbrev pub shows : Bool
shows =
    shows_of "/a/b[c]\na\nb\nc\n\n<a>x<b><c/></b><b/></a>" "<a><b><c></c></b></a>\n" &&
    shows_of "/a/b/c\na\nb\nc\n\n<a>\n\n<b>y<c/>\n</b></a>\n" "<a><b><c></c></b></a>\n" &&
    shows_of "/\na\n\n<a>\n\n</a>" "<a>\n\n</a>\n" &&
    shows_of "/b\na\nb\n\n<a/>" "" &&
    shows_of "/..\na\n\n<a/>" "" &&
    shows_of "/a[\na\n\n<a>" "refused query 3 3\n" &&
    shows_of "/a\n\n<a/>" "refused query 5 1\n" &&
    shows_of "/\n\n<a/>" "refused text 5 1\n" &&
    shows_of "/a\na\n\n<a>" "refused text 11 3\n" &&
    shows_of "/a\na\n\n<a b='c'/>" "refused text 12 3\n" &&
    shows_of "/a\na\n" "refused text 11 0\n" &&
    shows_of "/a\na" "refused query 2 0\n" &&
    shows_of "" "refused query 3 0\n"

pub shows_hold : T shows
unfolding decimal table_read show_prints query_shows text_shows table_shows file_shows read_answer read_items read_xml left_out read_xml_answer read_xml_column run_answer reads_as write_xml_answer kept_xml names_fault names_of bad_line tokens token_at read_text read_tail read_tested read_step read_operand read_term read_expr read_path path_at step_at encode decode take_operand take_term take_expr size nesting height over good_node table_fault good_mark marks_fault reaches selects keeps kept
shows_hold = tt
