-- 02, 2026-13: roles over the entry points' answers: a role's call is the composition of its query with the union of its views, so it is exact and keeps secrets; what it does not use plays no part, and more views show no less.
use Rattle.std.specs.Prelude.{ℕ, ◌≤◌, ◌<◌, ◌≡◌, true, List, [], ◌∷◌, length, get_or, take}
use Rattle.std.proofs.Math.Option.{none, some}
use Rattle.paper.specs.Tools.{some_of}
use Rattle.paper.specs.Limits.{item_limit}
use Rattle.paper.specs.Query.{Query}
use Rattle.paper.specs.Items.{decode}
use Rattle.paper.specs.Document.{Table, nodes, marked}
use Rattle.paper.specs.Answers.{value, refusal, scratch_of, read_answer, read_items, compose_answer, compose_out, run_answer, run_marks}
use Rattle.paper.specs.Roles.{views_of, bit, first_unread, role_views, role_union, role_answer, role_out}
use Rattle.theorems.specs.Demands.{all_marked}
use Rattle.role_theorems.specs.Gateway.{view_keeps, IsUnion, Within, SameFor}
use Rattle.entry_promises.specs.Entries.{Shows, AlikeAfter}

-- The mask of a role, and the items of the union of its views.
abbrev pub mask_for : List ℕ → ℕ → ℕ
mask_for masks role = get_or masks role 0

abbrev pub union_for : List ℕ → List ℕ → List ℕ → ℕ → List ℕ
union_for views list masks role = role_union views list (mask_for masks role)

-- The items of a query's text.
abbrev pub asked_by : List ℕ → List ℕ → List ℕ
asked_by list text = read_items text 1 list

-- ACCEPTANCE. All views could be read and so could the query; the role's views are united, and the composition of the query with their union is accepted and left.
pub record IsForRole (views list masks : List ℕ) (role : ℕ) (text out : List ℕ) (n : ℕ) : Type 0 where
  pub views_read : first_unread list 0 (views_of views) ≡ none
  pub query_read : (k : ℕ) × (read_answer text 1 list item_limit ≡ value k)
  pub is_union : IsUnion list (role_views views (mask_for masks role))
  pub union_few : length (union_for views list masks role) ≤ item_limit
  pub composes : compose_answer (asked_by list text) (union_for views list masks role) (length out) ≡ value n
  pub leaves : role_out views list masks role text out ≡ compose_out (asked_by list text) (union_for views list masks role) out

abbrev pub RoleAcceptance : Type 0
RoleAcceptance =
    (views list masks : List ℕ) (role : ℕ) (text out : List ℕ) (n : ℕ) → role_answer views list masks role text (length out) ≡ value n
    → IsForRole views list masks role text out n

-- No run calls the items malformed.
abbrev pub RoleNeverMalformed : Type 0
RoleNeverMalformed =
    (views list masks : List ℕ) (role : ℕ) (text out : List ℕ) (n : ℕ) (t : Table) (given : List ℕ) (marks_room scratch_room place : ℕ)
    → role_answer views list masks role text (length out) ≡ value n
    → run_answer (take n (role_out views list masks role text out)) t given marks_room scratch_room ≡ refusal 6 place → ⊥

-- INDEPENDENCE: of two lendings within the limits in which all views can be read, that are the same for this role, it gets in the same room the same answer and, where that is a number of items, the same items.
abbrev pub RoleIndependence : Type 0
RoleIndependence =
    (views views' list masks masks' : List ℕ) (role : ℕ) (text out out' : List ℕ) → Within views list masks text → Within views' list masks' text
    → first_unread list 0 (views_of views) ≡ none → first_unread list 0 (views_of views') ≡ none → SameFor role views views' masks masks' → length out ≡ length out'
    → (role_answer views list masks role text (length out) ≡ role_answer views' list masks' role text (length out'))
    × ((n : ℕ) → role_answer views list masks role text (length out) ≡ value n
    → take n (role_out views list masks role text out) ≡ take n (role_out views' list masks' role text out'))

-- EXACTNESS: a run of the role's items answers and writes the same as a run of the union of its views and, inside the marks that this wrote, a run of the query.
abbrev pub RoleExactness : Type 0
RoleExactness =
    (views list masks : List ℕ) (role : ℕ) (text out : List ℕ) (t : Table) (given marks first second : List ℕ) (n a b c room room₁ room₂ : ℕ)
    → role_answer views list masks role text (length out) ≡ value n →
    let items = take n (role_out views list masks role text out) in
    let union = union_for views list masks role in
    let asked = asked_by list text in
    let shown = run_marks union t given first room₁ in
    run_answer items t given (length marks) room ≡ value a → run_answer union t given (length first) room₁ ≡ value b → run_answer asked t shown (length second) room₂ ≡ value c
    → (a ≡ c) × (run_marks items t given marks room ≡ run_marks asked t shown second room₂)

-- The premises can be met: where the role's call and the run of the union are accepted, the other two runs are too, with marks as long as the table and scratch enough.
abbrev pub RoleTogether : Type 0
RoleTogether =
    (views list masks : List ℕ) (role : ℕ) (text out : List ℕ) (t : Table) (given first : List ℕ) (o q : Query) (n b room room₁ room₂ : ℕ)
    → role_answer views list masks role text (length out) ≡ value n →
    let items = take n (role_out views list masks role text out) in
    let union = union_for views list masks role in
    let asked = asked_by list text in
    run_answer union t given (length first) room₁ ≡ value b → decode items ≡ some q → decode asked ≡ some o → scratch_of t q ≤ room → scratch_of t o ≤ room₂
    → (a : ℕ) × (run_answer items t given (nodes t) room ≡ value a) × (run_answer asked t (run_marks union t given first room₁) (nodes t) room₂ ≡ value a)

-- THE UNION: of an accepted call, a run of the union marks a node exactly if one of the role's views keeps it,
abbrev pub UnionMarks : Type 0
UnionMarks =
    (views list masks : List ℕ) (role : ℕ) (text : List ℕ) (t : Table) (given marks : List ℕ) (n a space room i : ℕ) → role_answer views list masks role text space ≡ value n
    → run_answer (union_for views list masks role) t given (length marks) room ≡ value a → i < nodes t
    → marked (run_marks (union_for views list masks role) t given marks room) i ≡ some_of (view_keeps t given list i) (role_views views (mask_for masks role))

-- and a run of a view by itself marks exactly what the view keeps.
abbrev pub ViewMarks : Type 0
ViewMarks =
    (view list : List ℕ) (t : Table) (given marks : List ℕ) (a room i : ℕ) → run_answer (read_items view 1 list) t given (length marks) room ≡ value a → i < nodes t
    → marked (run_marks (read_items view 1 list) t given marks room) i ≡ view_keeps t given list i view

-- SECRECY: where the union of a role's views shows the same columns of two documents, with every mark 1, the role's items show the same of both, whatever the query is.
abbrev pub RoleSecrecy : Type 0
RoleSecrecy =
    (views list masks : List ℕ) (role : ℕ) (text out : List ℕ) (t u : Table) (n a b l m : ℕ) (parentsₜ kindsₜ parentsᵤ kindsᵤ : List ℕ)
    → role_answer views list masks role text (length out) ≡ value n
    → Shows (union_for views list masks role) t (all_marked t) a l parentsₜ kindsₜ → Shows (union_for views list masks role) u (all_marked u) b m parentsᵤ kindsᵤ
    → parentsₜ ≡ parentsᵤ → kindsₜ ≡ kindsᵤ
    → AlikeAfter (take n (role_out views list masks role text out)) t (all_marked t) u (all_marked u)

-- The text `/`.
abbrev pub slash : List ℕ
slash = 47 ∷ []

-- A role has every view of another.
abbrev pub SeesAll : List ℕ → ℕ → ℕ → Type 0
SeesAll masks other role = (v : ℕ) → bit (mask_for masks other) v ≡ true → bit (mask_for masks role) v ≡ true

-- MONOTONY: a role with every view of another keeps, when the query is `/`, on each document and inside any marks at least what the other keeps.
abbrev pub RoleMonotony : Type 0
RoleMonotony =
    (views list masks : List ℕ) (other role : ℕ) (out out' : List ℕ) (t : Table) (given marks marks' : List ℕ) (n n' a a' room room' : ℕ) → SeesAll masks other role
    → role_answer views list masks other slash (length out) ≡ value n → role_answer views list masks role slash (length out') ≡ value n' →
    let less = take n (role_out views list masks other slash out) in
    let more = take n' (role_out views list masks role slash out') in
    run_answer less t given (length marks) room ≡ value a → run_answer more t given (length marks') room' ≡ value a' → (i : ℕ) → i < nodes t
    → marked (run_marks less t given marks room) i ≡ true → marked (run_marks more t given marks' room') i ≡ true
