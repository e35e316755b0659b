-- 02, 2026-13: roles over calls of the compiled entry points that met their contracts: independence, exactness, what a union keeps, secrecy and monotony.
use Rattle.std.specs.Prelude.{ℕ, ◌<◌, ◌≡◌, true, List, map, length, take}
use Rattle.std.proofs.Math.Option.{none}
use contract.Lifetimes.{Lfts}
use denote.Triple.Clauses.{AtExit}
use borrow.Fn.World.{ArgsD}
use Rattle.paper.specs.Tools.{some_of}
use Rattle.paper.specs.Document.{marked, table_of}
use Rattle.paper.specs.Roles.{views_of, first_unread, role_views}
use Rattle.paper.specs.Told.{Answer}
use Rattle.std.specs.Prelude.{Ok}
use Rattle.role_theorems.specs.Gateway.{view_keeps, Within, SameFor}
use Rattle.roles.specs.contracts.for_role
use Rattle.call_promises.specs.Calls.{ReadCall, RunCall, View, ones}
use Rattle.call_promises.specs.ChainCalls.{ShowsAlike}
use Rattle.entry_promises.specs.RoleEntries.{mask_for, union_for, slash, SeesAll}
use Rattle.call_promises.specs.RoleReads.{RolePost}

-- A call of `roles::for_role` with roles of these masks, which held `old` in the slice for items.
pub record RoleCall (views list masks : List ℕ) (role : ℕ) (text old : List ℕ) (answer : Answer) (out : List ℕ) : Type 0 where
  pub κs : Lfts 5
  pub args : ArgsD for_role.signature κs
  pub exit : AtExit for_role.ended κs
  pub met : RolePost κs args answer exit
  pub views_lent : args.0.now ≡ views
  pub list_lent : args.1.0.now ≡ list
  pub masks_lent : map (λ x. x.views) args.1.1.0.now ≡ masks
  pub role_given : args.1.1.1.0 ≡ role
  pub text_lent : args.1.1.1.1.0.now ≡ text
  pub out_lent : args.1.1.1.1.1.0.now ≡ old
  pub out_left : exit.1.1.1.1.1.0.now ≡ out

-- INDEPENDENCE: of two lendings within the limits in which all views can be read, that are the same for this role, it gets in the same room the same answer and, where that is a number of items, the same items.
abbrev pub RoleIndependence : Type 0
RoleIndependence =
    (views views' list masks masks' : List ℕ) (role : ℕ) (text old old' : List ℕ) (answer answer' : Answer) (out out' : List ℕ)
    → RoleCall views list masks role text old answer out → RoleCall views' list masks' role text old' answer' out'
    → Within views list masks text → Within views' list masks' text
    → first_unread list 0 (views_of views) ≡ none → first_unread list 0 (views_of views') ≡ none → SameFor role views views' masks masks' → length old ≡ length old'
    → (answer ≡ answer') × ((n : ℕ) → answer ≡ Ok n → take n out ≡ take n out')

-- EXACTNESS: a run of the role's items answers and writes the same as a run of the union of its views and, inside the marks that this wrote, a run of the query that was read.
abbrev pub RoleExactness : Type 0
RoleExactness =
    (views list masks : List ℕ) (role : ℕ) (text old out space asked parents kinds given marks shown last : List ℕ) (n k a b c : ℕ)
    → RoleCall views list masks role text old (Ok n) out → ReadCall text 1 list space (Ok k) asked
    → RunCall (take n out) parents kinds given (Ok a) marks → RunCall (union_for views list masks role) parents kinds given (Ok b) shown
    → RunCall (take k asked) parents kinds shown (Ok c) last
    → (a ≡ c) × (marks ≡ last)

-- THE UNION: of an accepted call, a run of the union marks a node exactly if one of the role's views keeps it,
abbrev pub UnionMarks : Type 0
UnionMarks =
    (views list masks : List ℕ) (role : ℕ) (text old out parents kinds given marks : List ℕ) (n a i : ℕ) → RoleCall views list masks role text old (Ok n) out
    → RunCall (union_for views list masks role) parents kinds given (Ok a) marks → i < length parents
    → marked marks i ≡ some_of (view_keeps (table_of parents kinds) given list i) (role_views views (mask_for masks role))

-- and a run of a view that was read marks exactly what the view keeps.
abbrev pub ViewMarks : Type 0
ViewMarks =
    (view list old items parents kinds given marks : List ℕ) (k a i : ℕ) → ReadCall view 1 list old (Ok k) items
    → RunCall (take k items) parents kinds given (Ok a) marks → i < length parents → marked marks i ≡ view_keeps (table_of parents kinds) given list i view

-- SECRECY: of two documents that the union of a role's views shows alike, the role's items show the same, whatever the query is.
abbrev pub RoleSecrecy : Type 0
RoleSecrecy =
    (views list masks : List ℕ) (role : ℕ) (text old out parents kinds parents' kinds' ps ks ps' ks' : List ℕ) (n : ℕ) → RoleCall views list masks role text old (Ok n) out
    → View (union_for views list masks role) parents kinds (ones parents) ps ks → View (union_for views list masks role) parents' kinds' (ones parents') ps' ks'
    → ps ≡ ps' → ks ≡ ks'
    → ShowsAlike (take n out) parents kinds parents' kinds'

-- MONOTONY: a role with every view of another marks, when the query is `/`, on each document and inside any marks at least what the other marks.
abbrev pub RoleMonotony : Type 0
RoleMonotony =
    (views list masks : List ℕ) (other role : ℕ) (old out old' out' parents kinds given marks marks' : List ℕ) (n n' a a' : ℕ) → SeesAll masks other role
    → RoleCall views list masks other slash old (Ok n) out → RoleCall views list masks role slash old' (Ok n') out'
    → RunCall (take n out) parents kinds given (Ok a) marks → RunCall (take n' out') parents kinds given (Ok a') marks'
    → (i : ℕ) → i < length parents → marked marks i ≡ true → marked marks' i ≡ true
