-- docs/SCOPE.md, "Short text", by computation: each text is read, its items are printed in the short form and in the long one, and both are read again by both versions.
use Rattle.std.specs.Prelude.{ℕ, Bool, true, ◌&&◌, List, [], ◌∷◌, T}
use Prim.Native.String.{String}
use Rattle.paper.specs.Tools.{ascii, same}
use Rattle.paper.specs.Names.{names_fault, names_of, bad_line}
use Rattle.paper.specs.Tokens.{tokens, token_at}
use Rattle.paper.specs.Reading.{read_text, read_tail, read_tested, read_step, read_operand, read_term, read_expr, read_path}
use Rattle.paper.specs.Items.{path_at, step_at, encode, decode, take_operand, take_term, take_expr}
use Rattle.paper.specs.Measures.{size, nesting}
use Rattle.paper.specs.Printing.{long_form, short_form, head_pieces, deepened, printed, pieces}
use Rattle.paper.specs.Answers.{read_answer, read_out, read_items, print_answer, print_out}
use Rattle.paper.specs.Samples.{names, blank, counted, items_of, printed_in}

-- The items of bytes by a version.
abbrev pub items_again : ℕ → List ℕ → List ℕ
items_again version text = counted (read_answer text version names 100) (read_out text version names blank)

-- Is the text printed so in a form, and the same again once read by either version?
abbrev pub prints_as : Bool → String → String → Bool
prints_as brief text expected =
    let items = items_of text in
    let again = printed_in brief names items in
    same again (ascii expected) && same (items_again 1 again) items && same (items_again 2 again) items

-- A row: a text, and what its items are in the short form and in the long one.
pub record Row : Type 0 where
  pub text : String
  pub brief : String
  pub long : String

abbrev pub row_holds : Row → Bool
row_holds r = prints_as short_form r.text r.brief && prints_as long_form r.text r.long

abbrev pub all_rows : List Row → Bool
all_rows [] = true
all_rows (r ∷ rs) = row_holds r && all_rows rs

abbrev row : String → String → String → Row
row text brief long = record { text = text; brief = brief; long = long }

-- 02's rule: rows of such steps at the start of a top-level path, inside, at the end, in predicates; `.` and `..` with and without a predicate; names that are words of the grammar elsewhere.
abbrev pub rows : List Row
rows =
    row "/" "/" "/" ∷
    row "//a" "//a" "/descendant-or-self::node()/child::a" ∷
    row "/descendant-or-self::node()" "/descendant-or-self::node()" "/descendant-or-self::node()" ∷
    row "//descendant-or-self::node()" "//descendant-or-self::node()" "/descendant-or-self::node()/descendant-or-self::node()" ∷
    row "/descendant-or-self::node()/descendant-or-self::node()/a" "//descendant-or-self::node()/a" "/descendant-or-self::node()/descendant-or-self::node()/child::a" ∷
    row "/a/descendant-or-self::node()/descendant-or-self::node()/b" "/a//descendant-or-self::node()/b" "/child::a/descendant-or-self::node()/descendant-or-self::node()/child::b" ∷
    row "/a//descendant-or-self::node()//b" "/a//descendant-or-self::node()//b" "/child::a/descendant-or-self::node()/descendant-or-self::node()/descendant-or-self::node()/child::b" ∷
    row "/a//descendant-or-self::node()/descendant-or-self::node()" "/a//descendant-or-self::node()/descendant-or-self::node()" "/child::a/descendant-or-self::node()/descendant-or-self::node()/descendant-or-self::node()" ∷
    row "/a[descendant-or-self::node()/b]" "/a[descendant-or-self::node()/b]" "/child::a[descendant-or-self::node()/child::b]" ∷
    row "/a[descendant-or-self::node()/descendant-or-self::node()/b]" "/a[descendant-or-self::node()//b]" "/child::a[descendant-or-self::node()/descendant-or-self::node()/child::b]" ∷
    row "/a[b//descendant-or-self::node()[c]/d]" "/a[b//descendant-or-self::node()[c]/d]" "/child::a[child::b/descendant-or-self::node()/descendant-or-self::node()[child::c]/child::d]" ∷
    row "//.//..//./*[.. and text()]" "//.//..//./*[.. and text()]" "/descendant-or-self::node()/self::node()/descendant-or-self::node()/parent::node()/descendant-or-self::node()/self::node()/child::*[parent::node() and child::text()]" ∷
    row "/a/self::node()[b]|/self::a|/.." "/a/self::node()[b]|/self::a|/.." "/child::a/self::node()[child::b]|/self::a|/parent::node()" ∷
    row "/./parent::node()[b]/parent::a" "/./parent::node()[b]/parent::a" "/self::node()/parent::node()[child::b]/parent::a" ∷
    []

-- Every row holds, by computation.
pub rows_hold : T (all_rows rows)
unfolding read_answer read_out read_items print_answer print_out head_pieces deepened printed pieces names_fault names_of bad_line tokens token_at read_text read_tail read_tested read_step read_operand read_term read_expr read_path path_at step_at encode decode take_operand take_term take_expr size nesting
rows_hold = tt
