-- 02, 2026-13: what roles owe, over definitions: views that can be read are queries, their union keeps what one of them keeps, and what a role does not use plays no part.
use Rattle.std.specs.Prelude.{ℕ, zero, suc, ◌≤◌, ◌<◌, ◌≡◌, Bool, true, false, List, [], ◌∷◌, eqb, leb, length, get_or}
use Rattle.std.proofs.Math.Option.{Option, none, some}
use Rattle.paper.specs.Tools.{some_of}
use Rattle.paper.specs.Limits.{text_limit, list_limit, item_limit}
use Rattle.paper.specs.Query.{Query, stop}
use Rattle.paper.specs.Items.{decode}
use Rattle.paper.specs.Document.{Table, nodes, marked}
use Rattle.paper.specs.Selection.{keeps}
use Rattle.paper.specs.Answers.{value, refusal, read_answer, read_items, compose_answer}
use Rattle.paper.specs.Roles.{view_limit, role_limit, views_of, unended, bit, chosen, beyond, first_unread, union_items, role_views, role_union, union, role_answer, role_out}
use Rattle.answer_bounds.specs.Bounds.{Small}

-- A text that is accepted leaves the items of a query: they can stand in memory.
abbrev pub ReadIsQuery : Type 0
ReadIsQuery = (text list : List ℕ) (room n : ℕ) → read_answer text 1 list room ≡ value n → (q : Query) × (decode (read_items text 1 list) ≡ some q)

-- A union of queries keeps what one of them keeps.
abbrev pub UnionKeeps : Type 0
UnionKeeps = (t : Table) (marks : List ℕ) (q : Query) (qs : List Query) (i : ℕ) → keeps t marks (union q qs) i ≡ some_of (λ r. keeps t marks r i) (q ∷ qs)

-- Does the query of a view, where its text is read with this list, keep the node?
abbrev pub keeps_got : Table → List ℕ → ℕ → Option Query → Bool
keeps_got t marks i none = false
keeps_got t marks i (some q) = keeps t marks q i

abbrev pub view_keeps : Table → List ℕ → List ℕ → ℕ → List ℕ → Bool
view_keeps t marks list i view = keeps_got t marks i (decode (read_items view 1 list))

-- The items of the union of views are a query, which keeps what one of the views keeps.
pub record IsUnion (list : List ℕ) (views : List (List ℕ)) : Type 0 where
  pub is : Query
  pub decodes : decode (union_items list views) ≡ some is
  pub keeps_each : (t : Table) (marks : List ℕ) (i : ℕ) → keeps t marks is i ≡ some_of (view_keeps t marks list i) views

-- UNION: so it is with views that can all be read, one at least.
abbrev pub Union : Type 0
Union = (list : List ℕ) (v : ℕ) (views : List (List ℕ)) → first_unread list v views ≡ none → 1 ≤ length views → IsUnion list views

-- The element of a number, if it is given.
abbrev pub given : {A : Type 0} → List A → ℕ → Option A
given [] v = none
given (x ∷ xs) zero = some x
given (x ∷ xs) (suc v) = given xs v

-- What is lent keeps the limits of refusal 1.
pub record Within (views list : List ℕ) (masks : List ℕ) (text : List ℕ) : Type 0 where
  pub views_short : length views ≤ text_limit
  pub list_short : length list ≤ list_limit
  pub text_short : length text ≤ text_limit
  pub views_few : length (views_of views) ≤ view_limit
  pub views_ended : unended views ≡ false
  pub masks_few : length masks ≤ role_limit

-- This role is given in both or in neither and has the same mask, and each view that it names is the same line, given in both or in neither.
pub record SameFor (role : ℕ) (views views' masks masks' : List ℕ) : Type 0 where
  pub same_role : leb (length masks) role ≡ leb (length masks') role
  pub same_mask : get_or masks role 0 ≡ get_or masks' role 0
  pub same_views : (v : ℕ) → bit (get_or masks role 0) v ≡ true → given (views_of views) v ≡ given (views_of views') v

-- INDEPENDENCE: of two lendings within the limits in which all views can be read, that are the same for this role, the other views and roles changed, added or taken away, it gets the same answer and the same items.
abbrev pub Independence : Type 0
Independence =
    (views views' list masks masks' : List ℕ) (role : ℕ) (text : List ℕ) → Within views list masks text → Within views' list masks' text
    → first_unread list 0 (views_of views) ≡ none → first_unread list 0 (views_of views') ≡ none → SameFor role views views' masks masks'
    → ((room : ℕ) → role_answer views list masks role text room ≡ role_answer views' list masks' role text room)
    × ((out : List ℕ) → role_out views list masks role text out ≡ role_out views' list masks' role text out)

-- MONOTONY: where a mask names every view that another names, the union of its views keeps what the other's keeps.
abbrev pub Monotony : Type 0
Monotony =
    (list : List ℕ) (views : List (List ℕ)) (mask more : ℕ) → ((v : ℕ) → bit mask v ≡ true → bit more v ≡ true)
    → (u : IsUnion list (chosen (bit mask) views)) (w : IsUnion list (chosen (bit more) views))
    → (t : Table) (marks : List ℕ) (i : ℕ) → keeps t marks u.is i ≡ true → keeps t marks w.is i ≡ true

-- What `/` keeps inside marks grows with them.
abbrev pub root : Query
root = record { first = stop; others = [] }

abbrev pub RootGrows : Type 0
RootGrows =
    (t : Table) (marks more : List ℕ) → ((i : ℕ) → i < nodes t → marked marks i ≡ true → marked more i ≡ true)
    → (i : ℕ) → i < nodes t → keeps t marks root i ≡ true → keeps t more root i ≡ true

-- BELOW 2^32: every value and place, where the role's number is.
abbrev pub RoleSmall : Type 0
RoleSmall = (views list masks : List ℕ) (role : ℕ) (text : List ℕ) (room : ℕ) → role < 4294967296 → Small (role_answer views list masks role text room)

-- Of a role whose mask names a view and none that is not given, where all views can be read, the union is one of queries.
abbrev pub RoleUnion : Type 0
RoleUnion =
    (views list : List ℕ) (mask : ℕ) → first_unread list 0 (views_of views) ≡ none → eqb mask 0 ≡ false → eqb (beyond mask (length (views_of views))) 0 ≡ true
    → IsUnion list (role_views views mask)

-- Compose never refuses such a union, or a query that was read, as malformed.
abbrev pub NeverMalformed : Type 0
NeverMalformed =
    (views list : List ℕ) (mask : ℕ) (text : List ℕ) (room n place : ℕ) → IsUnion list (role_views views mask) → read_answer text 1 list item_limit ≡ value n
    → compose_answer (read_items text 1 list) (role_union views list mask) room ≡ refusal 6 place → ⊥
