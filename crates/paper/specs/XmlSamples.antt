-- The samples of 02, 2026-01, by one table and one statement: each text with the answer of reading it, and the four columns of those that are accepted.
use Rattle.std.specs.Prelude.{ℕ, Bool, true, ◌&&◌, List, [], ◌∷◌, ◌++◌, T, replicate}
use Rattle.paper.specs.Tools.{ascii, same}
use Rattle.paper.specs.Names.{names_fault, names_of, bad_line}
use Rattle.paper.specs.Xml.{read_xml, left_out, Row}
use Rattle.paper.specs.Samples.{counted, numbers}
use Rattle.paper.specs.Answers.{Answer, read_xml_answer, parent_field, kind_field, begin_field, end_field, read_xml_column}

-- The names a and b, and rooms of 9 nodes.
abbrev pub names : List ℕ
names = ascii "a\nb\n"

abbrev pub answered : List ℕ → Answer
answered text = read_xml_answer text names 9 9 9 9

-- What stands in a column, up to the answer's count.
abbrev pub column_of : (Row → ℕ) → List ℕ → List ℕ
column_of field text = counted (answered text) (read_xml_column field text (answered text) (replicate 9 7))

-- A text with its answer, and with the columns parent, kind, begin and end in a row.
pub record Sample : Type 0 where
  pub text : List ℕ
  pub answer : List ℕ
  pub columns : List ℕ

abbrev sample : List ℕ → List ℕ → List ℕ → Sample
sample text answer columns = record { text = text; answer = answer; columns = columns }

abbrev pub holds : Sample → Bool
holds s =
    same (numbers (answered s.text)) s.answer
    && same (column_of parent_field s.text ++ column_of (kind_field names) s.text ++ column_of begin_field s.text ++ column_of end_field s.text) s.columns

abbrev pub all_hold : List Sample → Bool
all_hold [] = true
all_hold (s ∷ ss) = holds s && all_hold ss

abbrev pub samples : List Sample
samples =
    sample (ascii " <a/> ") (2 ∷ []) (0 ∷ 0 ∷ 0 ∷ 2 ∷ 0 ∷ 1 ∷ 6 ∷ 5 ∷ []) ∷
    sample (ascii "<a>x<b/>y</a>") (5 ∷ []) (0 ∷ 0 ∷ 1 ∷ 1 ∷ 1 ∷ 0 ∷ 2 ∷ 1 ∷ 3 ∷ 1 ∷ 0 ∷ 0 ∷ 3 ∷ 4 ∷ 8 ∷ 13 ∷ 13 ∷ 4 ∷ 8 ∷ 9 ∷ []) ∷
    sample (ascii "<a>&lt;x&amp;</a>") (3 ∷ []) (0 ∷ 0 ∷ 1 ∷ 0 ∷ 2 ∷ 1 ∷ 0 ∷ 0 ∷ 3 ∷ 17 ∷ 17 ∷ 13 ∷ []) ∷
    sample (ascii "<?xml version='1.0' encoding=\"utf-8\" standalone = 'no' ?>\n<a ></a >\n") (2 ∷ []) (0 ∷ 0 ∷ 0 ∷ 2 ∷ 0 ∷ 58 ∷ 68 ∷ 67 ∷ []) ∷
    sample (ascii "") (11 ∷ 0 ∷ []) [] ∷
    sample (ascii "<a>x") (11 ∷ 4 ∷ []) [] ∷
    sample (ascii "<a/><b/>") (11 ∷ 4 ∷ []) [] ∷
    sample (ascii "<a></ab>") (11 ∷ 6 ∷ []) [] ∷
    sample (ascii "<a>]]></a>") (11 ∷ 5 ∷ []) [] ∷
    sample (ascii "<a>" ++ (237 ∷ 160 ∷ 128 ∷ [])) (11 ∷ 4 ∷ []) [] ∷
    sample (ascii "<a>" ++ (239 ∷ 191 ∷ 190 ∷ [])) (11 ∷ 5 ∷ []) [] ∷
    sample (ascii "<a b=\"c\"/>") (12 ∷ 3 ∷ []) [] ∷
    sample (ascii "<a:b/>") (12 ∷ 2 ∷ []) [] ∷
    sample (ascii "<a/><!--") (12 ∷ 4 ∷ []) [] ∷
    sample (ascii "<a>&#65;") (12 ∷ 3 ∷ []) [] ∷
    sample (ascii " <?xml version=\"1.0\"?>") (12 ∷ 1 ∷ []) [] ∷
    sample (ascii "<?xml?>") (12 ∷ 0 ∷ []) [] ∷
    sample (ascii "<a<!") (12 ∷ 2 ∷ []) [] ∷
    sample (ascii "<a>&&#") (12 ∷ 4 ∷ []) [] ∷
    sample (ascii "<?xm") (12 ∷ 0 ∷ []) [] ∷
    sample (ascii "<a" ++ (195 ∷ 151 ∷ [])) (12 ∷ 2 ∷ []) [] ∷
    sample (ascii "<?xml version=\"1.0\" encoding=\"UTF-16\"?>") (12 ∷ 30 ∷ []) [] ∷
    sample (ascii "<?xml version=\"1.0\" encoding=\"UTF-1") (11 ∷ 34 ∷ []) [] ∷
    sample (ascii "<?xml ") (11 ∷ 6 ∷ []) [] ∷
    sample (ascii "<") (11 ∷ 1 ∷ []) [] ∷
    sample (ascii "<e/>") (5 ∷ 1 ∷ []) [] ∷
    []

-- Every sample holds, by computation.
pub samples_hold : T (all_hold samples)
unfolding read_xml_answer read_xml_column names_fault names_of bad_line read_xml left_out
samples_hold = tt
