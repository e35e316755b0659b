-- The samples of 02, 2026-11, by one table and one statement: cuts of 01's table, each fault alone, and the refusals in their order.
use Rattle.std.specs.Prelude.{ℕ, Bool, ◌&&◌, List, [], ◌∷◌, T, replicate}
use Rattle.paper.specs.Tools.{same}
use Rattle.paper.specs.Document.{Table, table_of, over, good_node, table_fault}
use Rattle.paper.specs.Extraction.{extracted}
use Rattle.paper.specs.Cut.{has_child, stands, is_cut, marks_of, numbers_of}
use Rattle.paper.specs.Samples.{table, marks, numbers}
use Rattle.paper.specs.Answers.{is_cut_answer}

-- What is said of columns and numbers against 01's table.
abbrev pub said : List ℕ → List ℕ → List ℕ → List ℕ → Bool
said parents kinds originals expected = same (numbers (is_cut_answer table (table_of parents kinds) originals)) expected

-- What is said of the extract of marks with its numbers, and whether these stand for the marks.
abbrev pub said_of : List ℕ → ℕ → Bool
said_of given expected =
    same (numbers (is_cut_answer table (extracted table given) (numbers_of table given))) (expected ∷ []) && same (marks_of table (numbers_of table given)) given

-- Whole, empty, and with sub-trees removed it is a cut; an extract of other marks is none where a node lost all its children.
abbrev pub cuts : Bool
cuts =
    said_of (marks "1111111") 1 &&
    said_of (marks "0000000") 1 &&
    said_of (marks "1111100") 1 &&
    said_of (marks "1100011") 1 &&
    said_of (marks "1111000") 0 &&
    said_of (marks "1111110") 0 &&
    said_of (marks "1000000") 0

-- A cut with its numbers, then each fault alone: a number that is no node, a first number that is not the root's, numbers that stay equal, another kind, a parent that stands for another node, one that is our number, one that is no row, another parent of the root, a leaf that is none in ours.
abbrev pub faults : Bool
faults =
    said (0 ∷ 0 ∷ 1 ∷ 2 ∷ []) (0 ∷ 2 ∷ 3 ∷ 5 ∷ []) (0 ∷ 1 ∷ 5 ∷ 6 ∷ []) (1 ∷ []) &&
    said (0 ∷ 0 ∷ 1 ∷ 2 ∷ 3 ∷ 0 ∷ []) (0 ∷ 2 ∷ 3 ∷ 4 ∷ 1 ∷ 0 ∷ []) (0 ∷ 1 ∷ 2 ∷ 3 ∷ 4 ∷ 7 ∷ []) (0 ∷ []) &&
    said (0 ∷ 0 ∷ 1 ∷ []) (2 ∷ 3 ∷ 5 ∷ []) (1 ∷ 5 ∷ 6 ∷ []) (0 ∷ []) &&
    said (0 ∷ 0 ∷ 1 ∷ 2 ∷ 3 ∷ []) (0 ∷ 0 ∷ 2 ∷ 3 ∷ 5 ∷ []) (0 ∷ 0 ∷ 1 ∷ 5 ∷ 6 ∷ []) (0 ∷ []) &&
    said (0 ∷ 0 ∷ 1 ∷ 2 ∷ []) (0 ∷ 2 ∷ 3 ∷ 1 ∷ []) (0 ∷ 1 ∷ 5 ∷ 6 ∷ []) (0 ∷ []) &&
    said (0 ∷ 0 ∷ 1 ∷ 2 ∷ 3 ∷ 0 ∷ 5 ∷ []) (0 ∷ 2 ∷ 3 ∷ 4 ∷ 1 ∷ 3 ∷ 5 ∷ []) (0 ∷ 1 ∷ 2 ∷ 3 ∷ 4 ∷ 5 ∷ 6 ∷ []) (0 ∷ []) &&
    said (0 ∷ 0 ∷ 1 ∷ 5 ∷ []) (0 ∷ 2 ∷ 3 ∷ 5 ∷ []) (0 ∷ 1 ∷ 5 ∷ 6 ∷ []) (0 ∷ []) &&
    said (0 ∷ 0 ∷ 1 ∷ 2 ∷ 3 ∷ 7 ∷ 5 ∷ []) (0 ∷ 2 ∷ 3 ∷ 4 ∷ 1 ∷ 3 ∷ 5 ∷ []) (0 ∷ 1 ∷ 2 ∷ 3 ∷ 4 ∷ 5 ∷ 6 ∷ []) (0 ∷ []) &&
    said (1 ∷ 0 ∷ 1 ∷ 2 ∷ []) (0 ∷ 2 ∷ 3 ∷ 5 ∷ []) (0 ∷ 1 ∷ 5 ∷ 6 ∷ []) (0 ∷ []) &&
    said (0 ∷ 0 ∷ 1 ∷ []) (0 ∷ 2 ∷ 3 ∷ []) (0 ∷ 1 ∷ 5 ∷ []) (0 ∷ [])

-- Columns of unequal length are refused before a table of ours that is none.
abbrev pub broken : Table
broken = table_of (0 ∷ 1 ∷ []) (0 ∷ 2 ∷ [])

abbrev pub refusals : Bool
refusals =
    said (0 ∷ []) [] (0 ∷ []) (1 ∷ 0 ∷ []) &&
    said (0 ∷ []) (0 ∷ []) [] (1 ∷ 0 ∷ []) &&
    same (numbers (is_cut_answer (table_of (0 ∷ []) []) (table_of [] []) [])) (1 ∷ 0 ∷ []) &&
    same (numbers (is_cut_answer broken (table_of [] []) (0 ∷ []))) (1 ∷ 0 ∷ []) &&
    same (numbers (is_cut_answer broken (table_of (replicate 4097 0) (replicate 4097 0)) (replicate 4097 0))) (1 ∷ 0 ∷ []) &&
    same (numbers (is_cut_answer broken (table_of [] []) [])) (7 ∷ 1 ∷ []) &&
    same (numbers (is_cut_answer (table_of [] []) (table_of [] []) [])) (7 ∷ 0 ∷ [])

-- All of this holds, by computation.
pub cuts_hold : T (cuts && faults && refusals)
unfolding over good_node table_fault extracted has_child stands is_cut marks_of numbers_of is_cut_answer
cuts_hold = tt
