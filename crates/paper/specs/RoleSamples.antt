-- The samples of 02, 2026-13, by one table and one statement: what roles see of 01's table, and the refusals in their order.
use Rattle.std.specs.Prelude.{ℕ, Bool, ◌&&◌, List, [], ◌∷◌, T, replicate}
use Prim.Native.String.{String}
use Rattle.paper.specs.Tools.{ascii, same}
use Rattle.paper.specs.Names.{names_fault, names_of, bad_line}
use Rattle.paper.specs.Tokens.{tokens, token_at}
use Rattle.paper.specs.Reading.{read_text, read_tail, read_tested, read_step, read_operand, read_term, read_expr, read_path}
use Rattle.paper.specs.Items.{path_at, step_at, encode, decode, take_operand, take_term, take_expr}
use Rattle.paper.specs.Measures.{size, nesting, height}
use Rattle.paper.specs.Document.{over, good_node, table_fault, good_mark, marks_fault}
use Rattle.paper.specs.Selection.{reaches, selects, keeps, kept}
use Rattle.paper.specs.Composition.{reversed, selected_by, visible, last_step, composed_path, composed}
use Rattle.paper.specs.Answers.{read_answer, read_items, compose_answer, run_answer, run_marks}
use Rattle.paper.specs.Samples.{names, counted, marks_of, marks, numbers}
use Rattle.paper.specs.Roles.{views_of, unended, role_union, union_answer, mask_answer, role_answer, role_items, mask_out, role_out}

-- Three views, and four roles: the first view, the second and third, all three, one that is not given.
abbrev pub views : List ℕ
views = ascii "/a/b/c\n/a/b/d\n//text()\n"

abbrev pub masks : List ℕ
masks = 1 ∷ 6 ∷ 7 ∷ 9 ∷ []

-- What a role's query answers with a room of 400 items, and the marks that it leaves on 01's table.
abbrev pub answers_to : List ℕ → List ℕ → ℕ → String → List ℕ
answers_to given roles role text = numbers (role_answer given names roles role (ascii text) 400)

abbrev pub sees : ℕ → String → List ℕ
sees role text =
    marks_of (counted (role_answer views names masks role (ascii text) 400) (role_out views names masks role (ascii text) (replicate 400 7)))

abbrev pub says : ℕ → String → List ℕ → Bool
says role text expected = same (answers_to views masks role text) expected

-- What roles see; the size of the union in the place of a composition that is too large; each refusal, and the order of neighbours.
abbrev pub roles_see : Bool
roles_see =
    same (sees 0 "/") (marks "1111100") &&
    same (sees 1 "/a/b[d]") (marks "1100011") &&
    same (sees 1 "/a[not(b/d)]") (marks "0000000") &&
    same (sees 2 "/") (marks "1111111") &&
    same (sees 0 "/a[not(b/d)]") (marks "1111100") &&
    says 0 "/" (12 ∷ []) &&
    says 4 "/" (15 ∷ 4 ∷ []) &&
    says 3 "/" (16 ∷ 3 ∷ []) &&
    says 0 "/e" (5 ∷ 1 ∷ []) &&
    says 0 "/a[" (3 ∷ 3 ∷ []) &&
    same (answers_to views (0 ∷ []) 0 "/") (16 ∷ 0 ∷ []) &&
    same (answers_to (ascii "/\n\n/e\n") (1 ∷ []) 0 "/[") (17 ∷ 1 ∷ []) &&
    same (answers_to (ascii "/\n/[\n/e\n") (2 ∷ []) 0 "/") (17 ∷ 1 ∷ []) &&
    same (answers_to (ascii "/\n/e\n") (4 ∷ []) 0 "/") (16 ∷ 0 ∷ []) &&
    same (answers_to (ascii "/\n/e") (1 ∷ []) 1 "/") (1 ∷ 0 ∷ []) &&
    same (answers_to [] (1 ∷ []) 0 "/") (16 ∷ 0 ∷ []) &&
    same (answers_to views (replicate 17 1) 0 "/") (1 ∷ 0 ∷ []) &&
    same (numbers (role_answer views (ascii "a\na\n") masks 4 (ascii "/") 400)) (2 ∷ 2 ∷ []) &&
    same (numbers (role_answer views names masks 0 (ascii "/") 11)) (10 ∷ 12 ∷ [])

-- All of this holds, by computation.
pub roles_hold : T roles_see
unfolding views_of unended role_union union_answer mask_answer role_items mask_out height over good_node table_fault good_mark marks_fault reaches selects keeps kept run_answer run_marks read_answer read_items compose_answer names_fault names_of bad_line tokens token_at read_text read_tail read_tested read_step read_operand read_term read_expr read_path path_at step_at encode decode take_operand take_term take_expr size nesting reversed selected_by visible last_step composed_path composed
roles_hold = tt
