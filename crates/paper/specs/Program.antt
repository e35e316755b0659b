-- docs/SCOPE.md, "The printing program": for any input, the bytes that the program prints.
use Rattle.std.specs.Prelude.{ℕ, zero, suc, ◌+◌, ◌/◌, ◌%◌, cond, List, [], ◌∷◌, ◌++◌, eqb, ltb, length}
use Prim.Native.String.{String}
use Rattle.std.proofs.Math.Option.{Option, none, some}
use Rattle.paper.specs.Tools.{ascii, when}
use Rattle.paper.specs.Limits.{text_limit, item_limit}
use Rattle.paper.specs.Query.{Query}
use Rattle.paper.specs.Names.{names_of}
use Rattle.paper.specs.Items.{decode}
use Rattle.paper.specs.Measures.{nesting}
use Rattle.paper.specs.Printing.{long_form}
use Rattle.paper.specs.Answers.{Answer, value, refusal, line, too_long, read_answer, read_items, compose_answer, composed_got, print_answer, text_got}

-- An input has at most 49,152 bytes.
abbrev pub input_limit : ℕ
input_limit = 49152

-- The first line, without the LF that ends it; a missing line counts as empty.
abbrev pub first_line : List ℕ → List ℕ
first_line [] = []
first_line (b ∷ bs) = let later = first_line bs in cond (eqb b 10) [] (b ∷ later)

-- What follows the first line and its LF.
abbrev pub after_line : List ℕ → List ℕ
after_line [] = []
after_line (b ∷ bs) = let later = after_line bs in cond (eqb b 10) bs later

-- The last `most` decimal digits of a number, or all of them where it has fewer.
abbrev pub digits : ℕ → ℕ → List ℕ
digits zero n = []
digits (suc most) n = let earlier = digits most (n / 10) in cond (ltb n 10) [] earlier ++ ((48 + n % 10) ∷ [])

-- A number in decimal digits; n has no more than n + 1 of them.
unfoldable pub decimal : ℕ → List ℕ
decimal n = digits (suc n) n

-- The line of a refusal: `refused WHERE NUMBER PLACE`.
abbrev pub refusal_line : List ℕ → ℕ → ℕ → List ℕ
refusal_line part number place = ascii "refused " ++ part ++ ascii " " ++ decimal number ++ ascii " " ++ decimal place ++ ascii "\n"

-- What is printed where a part of the work answers so: the line of its refusal, or what the later parts print.
abbrev pub unless_refused : String → Answer → List ℕ → List ℕ
unless_refused part (value n) later = later
unless_refused part (refusal number place) later = refusal_line (ascii part) number place

-- Line 1 is the query, line 2 its size and nesting.
abbrev pub result_lines : List ℕ → ℕ → ℕ → List ℕ
result_lines text size nest = text ++ ascii "\nsize " ++ decimal size ++ ascii " nesting " ++ decimal nest ++ ascii "\n"

-- The nesting of items.
abbrev pub nesting_got : Option Query → ℕ
nesting_got none = 0
nesting_got (some q) = nesting q

-- What is printed of a composed query, in the long form: text room is 32,768 bytes.
unfoldable pub query_prints : List ℕ → List ℕ → List ℕ
query_prints query list =
    unless_refused "print" (print_answer long_form query list text_limit)
    (result_lines (text_got long_form (names_of list) (decode query)) (length query) (nesting_got (decode query)))

-- What is printed of the outer and the inner query: query room is 4,096 items for each query.
unfoldable pub queries_print : List ℕ → List ℕ → List ℕ → List ℕ
queries_print outer inner list =
    unless_refused "compose" (compose_answer outer inner item_limit) (query_prints (composed_got (decode outer) (decode inner)) list)

-- What is printed of the two texts, which are read by version 1 of XPath.
unfoldable pub texts_print : List ℕ → List ℕ → List ℕ → List ℕ
texts_print outer inner list =
    unless_refused "outer" (read_answer outer 1 list item_limit)
    (unless_refused "inner" (read_answer inner 1 list item_limit) (queries_print (read_items outer 1 list) (read_items inner 1 list) list))

-- Input over 49,152 bytes is refused: input gives 1 and 0.
abbrev pub input_answer : List ℕ → Answer
input_answer input = line 1 (when (too_long input input_limit) 0) (value (length input))

-- WHAT THE PROGRAM PRINTS: line 1 is the outer query, line 2 the inner, the rest the name list.
unfoldable pub program_prints : List ℕ → List ℕ
program_prints input =
    unless_refused "input" (input_answer input)
    (texts_print (first_line input) (first_line (after_line input)) (after_line (after_line input)))
