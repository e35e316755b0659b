-- What following the definition node by node gives: what items say of one node, and where a step leads next.
use Rattle.std.specs.Prelude.{ℕ, ◌+◌, ◌≤◌, ◌<◌, ◌≡◌, Bool, true, false, ◌&&◌, ◌||◌, List, [], ◌∷◌, eqb, length, get_or, drop, Option, Some, None}
use Rattle.std.proofs.Math.Option.{some}
use Rattle.paper.specs.Tools.{some_below}
use Rattle.paper.specs.Limits.{item_limit}
use Rattle.paper.specs.Query.{Steps, stop, step, Preds}
use Rattle.paper.specs.Document.{Table, nodes}
use Rattle.paper.specs.Items.{Taken, Head, step_at, take_preds, take_within}
use Rattle.paper.specs.Selection.{reaches, all_hold}
use Rattle.item.specs.declared.Step.{Step}
use Rattle.item.proofs.Saying.{numbered}
use Rattle.shape.specs.Ending.{Ends}
use Rattle.candidates.specs.Best.{Best}
use Rattle.search.specs.declared.Held.{Held}
use Rattle.search.specs.declared.Sought.{Sought}

-- A step stands there, and this is what it says, in numbers.
abbrev pub StepSaid : ℕ → Step → Type 0
StepSaid w s = (h : Head) × (step_at w ≡ some h) × (s ≡ numbered h)

-- Something is to be read from `at` on, and there is a place for the node of each item from there on.
pub record Fits {A : Type 0} (items : List ℕ) (at room : ℕ) (taken : Taken A) : Type 0 where
  pub what : A
  pub rest : List ℕ
  pub reads : taken ≡ some (what, rest)
  pub room_for : length items ≤ at + room
  pub inside : at ≤ length items
  pub few : length items ≤ item_limit

-- The answer is what was read says.
abbrev pub Settles : {A : Type 0} → Taken A → (A → Bool) → Bool → Type 0
Settles {A} taken says answer = (what : A) (rest : List ℕ) → taken ≡ some (what, rest) → answer ≡ says what

-- What was read ends there, and is decided.
pub record Decides {A : Type 0} (items : List ℕ) (at : ℕ) (taken : Taken A) (says : A → Bool) (held : Held) : Type 0 where
  pub ends : Ends items at taken held.next
  pub tells : held.holds ≡ says ends.what

-- A step stands at `place`, its predicates can be read, and there is a place for the node of each item behind it.
pub record StepFits (items : List ℕ) (place depth room : ℕ) : Type 0 where
  pub head : Head
  pub there : step_at (get_or items place 0) ≡ some head
  pub on : place < length items
  pub preds : Fits items (place + 1) room (take_preds (take_within depth) head.count (drop (place + 1) items))

-- The node that was found.
abbrev pub node_of : Option Sought → Option ℕ
node_of None = None
node_of (Some s) = Some s.node

-- The last node below the bound to which the step at `place` leads and at which its predicates hold, and where they end; none where there is no step more.
pub record Seeks (items : List ℕ) (place : ℕ) (more : Bool) (depth : ℕ) (t : Table) (marks : List ℕ) (from bound : ℕ) (r : Option Sought) : Type 0 where
  pub no_more : more ≡ false → r ≡ None
  pub best : more ≡ true → (h : Head) (ps : Preds) (rest : List ℕ) → step_at (get_or items place 0) ≡ some h → take_preds (take_within depth) h.count (drop (place + 1) items) ≡ some (ps, rest)
      → Best (λ j. reaches t marks h.axis h.test from j && all_hold t marks ps j) bound (node_of r)
  pub ends : more ≡ true → (s : Sought) → r ≡ Some s → (h : Head) → step_at (get_or items place 0) ≡ some h → Ends items (place + 1) (take_preds (take_within depth) h.count (drop (place + 1) items)) s.next

-- The last of the nodes where steps stand, or the one that they start from.
abbrev pub last_of : ℕ → List ℕ → ℕ
last_of i [] = i
last_of i (j ∷ js) = last_of j js

-- Is this the node wanted? Where the number wanted is that of the nodes, any is.
abbrev pub ending : ℕ → ℕ → ℕ → Bool
ending n wanted node = eqb wanted n || eqb node wanted

-- Do the steps lead from i to a node that passes the test?
module _ (t : Table) (marks : List ℕ) (more : ℕ → Bool) where
  abbrev pub goes : Steps → ℕ → Bool
  goes stop i = more i
  goes (step axis test preds rest) i =
      some_below (nodes t) (λ j. let further = goes rest j in reaches t marks axis test i j && all_hold t marks preds j && further)
