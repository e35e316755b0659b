-- 02, 2026-13: roles. Views are the lines of one lent text, a role names some of them, and a role's query is composed with the union of its views.
use Rattle.std.specs.Prelude.{ℕ, zero, suc, ◌/◌, ◌%◌, Bool, true, false, not, ◌||◌, cond, List, [], ◌∷◌, ◌++◌, map, eqb, leb, ltb, length, get_or}
use Rattle.std.proofs.Math.Option.{Option, none, some}
use Rattle.paper.specs.Tools.{when, some_of}
use Rattle.paper.specs.Limits.{text_limit, list_limit, item_limit}
use Rattle.paper.specs.Query.{Query, paths}
use Rattle.paper.specs.Names.{lines_from, names_fault}
use Rattle.paper.specs.Items.{decode}
use Rattle.paper.specs.Answers.{Answer, value, refusal, line, at_exit, too_long, read_answer, read_items, compose_answer, composed_got}

-- At most 32 views, and at most 16 roles.
abbrev pub view_limit : ℕ
view_limit = 32

abbrev pub role_limit : ℕ
role_limit = 16

-- The views, one a line, without the LF that ends it; view v counts from 0, and an empty text has none.
unfoldable pub views_of : List ℕ → List (List ℕ)
views_of text = map (λ l. l.says) (lines_from 0 text)

-- Is there no LF after the last view?
unfoldable pub unended : List ℕ → Bool
unended text = some_of (λ l. not l.ended) (lines_from 0 text)

-- Bit v of a mask: bit 0 is its lowest one, and bit v + 1 is bit v of its half.
abbrev pub bit : ℕ → ℕ → Bool
bit mask zero = eqb (mask % 2) 1
bit mask (suc v) = bit (mask / 2) v

-- The elements whose number passes the test, in their order.
abbrev pub chosen : {A : Type 0} → (ℕ → Bool) → List A → List A
chosen test [] = []
chosen test (x ∷ xs) = let later = chosen (λ v. test (suc v)) xs in cond (test 0) (x ∷ later) later

-- What is left of a mask once its bits for so many views are taken off: 0 where it names no further one.
abbrev pub beyond : ℕ → ℕ → ℕ
beyond mask zero = mask
beyond mask (suc views) = beyond (mask / 2) views

-- Refusal 17: can a view not be read, with a room of 4,096 items?
abbrev pub is_refused : Answer → Bool
is_refused (value n) = false
is_refused (refusal number place) = true

abbrev pub unread : List ℕ → List ℕ → Bool
unread list view = is_refused (read_answer view 1 list item_limit)

-- The number of the first such view, counting from v; all are read.
abbrev pub first_unread : List ℕ → ℕ → List (List ℕ) → Option ℕ
first_unread list v [] = none
first_unread list v (view ∷ views) = let later = first_unread list (suc v) views in cond (unread list view) (some v) later

-- The union of two queries, and of one and more: their paths one after the other.
abbrev pub united : Query → Query → Query
united q r = record { first = q.first; others = q.others ++ paths r }

abbrev pub union : Query → List Query → Query
union q [] = q
union q (r ∷ rs) = united q (union r rs)

-- The items of the union of views.
abbrev pub union_items : List ℕ → List (List ℕ) → List ℕ
union_items list [] = []
union_items list (view ∷ views) = read_items view 1 list ++ union_items list views

-- The views of a role, in view number order, and the items of their union.
abbrev pub role_views : List ℕ → ℕ → List (List ℕ)
role_views views mask = chosen (bit mask) (views_of views)

unfoldable pub role_union : List ℕ → List ℕ → ℕ → List ℕ
role_union views list mask = union_items list (role_views views mask)

-- What a call says after this one: its refusal, or the later lines.
abbrev pub line_answer : Answer → Answer → Answer
line_answer (value n) later = later
line_answer (refusal number place) later = refusal number place

-- The lines after those of the lent list and of the role: 17, then those of reading the query with a room of 4,096 items, 10 where the union is over 4,096 items, then those of compose.
unfoldable pub union_answer : List ℕ → List ℕ → ℕ → List ℕ → ℕ → Answer
union_answer views list mask text room =
    line 17 (first_unread list 0 (views_of views))
    (line_answer (read_answer text 1 list item_limit)
    (line 10 (when (ltb item_limit (length (role_union views list mask))) (length (role_union views list mask)))
    (compose_answer (read_items text 1 list) (role_union views list mask) room)))

-- A role of a number, with this mask, among so many: 1, 2, 15, 16 and those after them.
unfoldable pub mask_answer : List ℕ → List ℕ → ℕ → ℕ → ℕ → List ℕ → ℕ → Answer
mask_answer views list roles role mask text room =
    line 1
    (when
    (too_long views text_limit || too_long list list_limit || too_long text text_limit || ltb role_limit roles || ltb view_limit (length (views_of views)) || unended views)
    0)
    (line 2 (names_fault list)
    (line 15 (when (leb roles role) role)
    (line 16 (when (eqb mask 0 || not (eqb (beyond mask (length (views_of views))) 0)) role) (union_answer views list mask text room))))

-- FOR ROLE: 1, 2, 15 and 16 at the role's number, 17, those of reading the query, 10 of the union, those of compose; it answers the number of items. A role's number is its index among the masks.
abbrev pub role_answer : List ℕ → List ℕ → List ℕ → ℕ → List ℕ → ℕ → Answer
role_answer views list masks role text room = mask_answer views list (length masks) role (get_or masks role 0) text room

-- The items of a role's query composed with the union of its views.
unfoldable pub role_items : List ℕ → List ℕ → ℕ → List ℕ → List ℕ
role_items views list mask text = composed_got (decode (read_items text 1 list)) (decode (role_union views list mask))

unfoldable pub mask_out : List ℕ → List ℕ → ℕ → ℕ → ℕ → List ℕ → List ℕ → List ℕ
mask_out views list roles role mask text out = at_exit (mask_answer views list roles role mask text (length out)) (role_items views list mask text) out

abbrev pub role_out : List ℕ → List ℕ → List ℕ → ℕ → List ℕ → List ℕ → List ℕ
role_out views list masks role text out = mask_out views list (length masks) role (get_or masks role 0) text out
