-- Samples of 02, 2026-02, by one table and one statement: a text, read into its columns, with marks, and what is written; then each refusal, and the order of the lines.
use Rattle.std.specs.Prelude.{ℕ, Bool, true, ◌&&◌, List, [], ◌∷◌, ◌++◌, T}
use Prim.Native.String.{String}
use Rattle.paper.specs.Tools.{ascii, same}
use Rattle.paper.specs.Names.{names_fault, names_of, bad_line}
use Rattle.paper.specs.Document.{Table, table_of, over, good_node, table_fault, good_mark, marks_fault}
use Rattle.paper.specs.Xml.{read_xml, left_out}
use Rattle.paper.specs.WriteXml.{kept_xml}
use Rattle.paper.specs.Samples.{counted, numbers, blank, marks}
use Rattle.paper.specs.XmlSamples.{names, column_of}
use Rattle.paper.specs.Answers.{read_xml_answer, parent_field, kind_field, begin_field, end_field, read_xml_column, reads_as, write_xml_answer, write_xml_out}

-- The table of a text, and its places.
abbrev pub table_read : List ℕ → Table
table_read text = table_of (column_of parent_field text) (column_of (kind_field names) text)

-- A text with marks, room for 100 bytes, and what is written.
pub record Cut : Type 0 where
  pub text : List ℕ
  pub given : String
  pub file : List ℕ

abbrev cut : List ℕ → String → List ℕ → Cut
cut text given file = record { text = text; given = given; file = file }

abbrev pub cut_holds : Cut → Bool
cut_holds c =
    let t = table_read c.text in
    let begins = column_of begin_field c.text in
    let ends = column_of end_field c.text in
    same
    (counted (write_xml_answer c.text names t begins ends (marks c.given) 100) (write_xml_out c.text names t begins ends (marks c.given) blank))
    c.file

abbrev pub all_cuts : List Cut → Bool
all_cuts [] = true
all_cuts (c ∷ cs) = cut_holds c && all_cuts cs

abbrev pub cuts : List Cut
cuts =
    cut (ascii "<a>x<b/>y</a>") "11111" (ascii "<a>x<b></b>y</a>") ∷
    cut (ascii "<a>x<b/>y</a>") "11001" (ascii "<a>y</a>") ∷
    cut (ascii "<a>x<b/>y</a>") "11101" (ascii "<a>xy</a>") ∷
    cut (ascii "<a/>") "11" (ascii "<a></a>") ∷
    cut (ascii "<a><b>x</b></a>") "1100" (ascii "<a></a>") ∷
    cut (ascii "<?xml version='1.0'?>\n <a ><b\t/> </a\n>\n") "1111" (ascii "<a><b></b> </a>") ∷
    cut (ascii "<a>&lt;]]&gt;</a>") "111" (ascii "<a>&lt;]]&gt;</a>") ∷
    cut (ascii "<a>]]<b/>></a>") "11101" (ascii "<a>]]&gt;</a>") ∷
    cut (ascii "<a>]]<b/>></a>") "11111" (ascii "<a>]]<b></b>></a>") ∷
    cut (ascii "<a>]<b/>]><b/>></a>") "1110101" (ascii "<a>]]&gt;></a>") ∷
    cut (ascii "<a>]<b/>]<b/>>>]</a>") "1110101" (ascii "<a>]]&gt;>]</a>") ∷
    cut (ascii "<a>]]]<b/>]><b/>]</a>") "1110101" (ascii "<a>]]]]&gt;]</a>") ∷
    cut (ascii "<a>]]<b/>&gt;<b/>></a>") "1110101" (ascii "<a>]]&gt;></a>") ∷
    cut (ascii "<a>]<b/>x]<b/>></a>") "1110101" (ascii "<a>]x]></a>") ∷
    cut (ascii "<a>" ++ (195 ∷ 169 ∷ []) ++ ascii "]]<b>]</b>></a>") "111001" (ascii "<a>" ++ (195 ∷ 169 ∷ []) ++ ascii "]]&gt;</a>") ∷
    []

-- A call with its answer: the text is `<a>x<b/>y</a>`, whose columns these would be.
abbrev pub sample_text : List ℕ
sample_text = ascii "<a>x<b/>y</a>"

pub record Call : Type 0 where
  pub text : List ℕ
  pub list : String
  pub parents : String
  pub kinds : String
  pub begins : List ℕ
  pub ends : List ℕ
  pub given : String
  pub room : ℕ
  pub answer : List ℕ

abbrev pub call_holds : Call → Bool
call_holds c =
    same
    (numbers (write_xml_answer c.text (ascii c.list) (table_of (marks c.parents) (marks c.kinds)) c.begins c.ends (marks c.given) c.room))
    c.answer

abbrev pub all_calls : List Call → Bool
all_calls [] = true
all_calls (c ∷ cs) = call_holds c && all_calls cs

abbrev pub places_in : List ℕ
places_in = 0 ∷ 0 ∷ 3 ∷ 4 ∷ 8 ∷ []

abbrev pub places_past : List ℕ
places_past = 13 ∷ 13 ∷ 4 ∷ 8 ∷ 9 ∷ []

-- Columns and marks may be changed, and the room.
abbrev with : String → String → String → String → ℕ → List ℕ → Call
with list parents kinds given room answer =
    record { text = sample_text; list = list; parents = parents; kinds = kinds; begins = places_in; ends = places_past; given = given; room = room; answer = answer }

abbrev reading : List ℕ → List ℕ → List ℕ → List ℕ → Call
reading text begins ends answer =
    record { text = text; list = "a\nb\n"; parents = "00111"; kinds = "02131"; begins = begins; ends = ends; given = "11111"; room = 16; answer = answer }

abbrev pub calls : List Call
calls =
    with "a\nb\n" "00111" "02131" "11111" 16 (16 ∷ []) ∷
    with "a\nb\n" "00111" "02131" "11111" 15 (10 ∷ 16 ∷ []) ∷
    with "a\nb\n" "00111" "02131" "00000" 0 (13 ∷ 0 ∷ []) ∷
    with "a\nb\n" "00111" "02131" "10000" 16 (13 ∷ 0 ∷ []) ∷
    with "a\nb\n" "00111" "02131" "10100" 16 (8 ∷ 2 ∷ []) ∷
    with "a\nb\n" "00111" "02131" "1111" 16 (1 ∷ 0 ∷ []) ∷
    with "b\na\n" "00111" "02131" "11111" 16 (14 ∷ 0 ∷ []) ∷
    with "a\n" "00111" "02121" "11111" 16 (14 ∷ 0 ∷ []) ∷
    with "a\nb\nb\n" "00111" "02131" "11111" 16 (2 ∷ 4 ∷ []) ∷
    with "a\nb\n" "00112" "02131" "11111" 16 (7 ∷ 4 ∷ []) ∷
    with "a\nb\n" "00113" "02131" "11111" 16 (14 ∷ 0 ∷ []) ∷
    with "a\nb\n" "00113" "02131" "10000" 16 (13 ∷ 0 ∷ []) ∷
    with "a\nb\n" "00111" "02141" "11111" 0 (14 ∷ 0 ∷ []) ∷
    reading sample_text (0 ∷ 0 ∷ 3 ∷ 4 ∷ 7 ∷ []) places_past (14 ∷ 0 ∷ []) ∷
    reading sample_text places_in (13 ∷ 13 ∷ 4 ∷ 8 ∷ 8 ∷ []) (14 ∷ 0 ∷ []) ∷
    reading (ascii "<a>x<b/>y</b>") places_in places_past (14 ∷ 0 ∷ []) ∷
    []

-- Every sample holds, by computation.
pub samples_hold : T (all_cuts cuts && all_calls calls)
unfolding write_xml_answer write_xml_out reads_as kept_xml read_xml_answer read_xml_column names_fault names_of bad_line read_xml left_out table_fault good_node over marks_fault good_mark
samples_hold = tt
