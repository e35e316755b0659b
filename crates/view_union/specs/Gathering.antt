-- What gathering the views of a role promises, and composing with their union.
use Rattle.std.specs.Prelude.{ℕ, ◌≤◌, ◌≡◌, cond, List, [], ◌++◌, length, take, Ok, Err}
use Rattle.std.proofs.Math.Option.{none, some}
use Rattle.paper.specs.Limits.{item_limit}
use Rattle.paper.specs.Answers.{at_exit}
use Rattle.paper.specs.Roles.{views_of, bit, first_unread, role_union, union_answer, role_items}
use Rattle.paper.specs.Told.{Answer}
use Rattle.paper.specs.declared.Refusal.TheVariants.{UnreadView}

-- These items are so many, and stand at the start of the room if they fit.
pub record Holds (items room : List ℕ) (size : ℕ) : Type 0 where
  pub counts : size ≡ length items
  pub stands : size ≤ length room → take size room ≡ items

-- The items, where the lowest bit of the mask names them.
abbrev pub named_items : ℕ → List ℕ → List ℕ
named_items mask items = cond (bit mask 0) items []

-- What a view's items make of a union.
pub record Joins (items : List ℕ) (mask : ℕ) (old : List ℕ) (size : ℕ) (new : List ℕ) (r : ℕ) : Type 0 where
  pub holds : (done : List ℕ) → Holds done old size → Holds (done ++ named_items mask items) new r
  pub room : length new ≡ length old

-- What gathering gives: the number of the first view that can't be read, or the union of the role's views.
abbrev pub Gathers : List ℕ → List ℕ → ℕ → List ℕ → List ℕ → Answer → Type 0
Gathers views list mask spare room (Ok size) =
    (first_unread list 0 (views_of views) ≡ none) × Holds (role_union views list mask) room size × (length room ≡ item_limit) × (length spare ≡ item_limit)
Gathers views list mask spare room (Err why) = (view : ℕ) × (why ≡ UnreadView view) × (first_unread list 0 (views_of views) ≡ some view)

-- What the lent items hold after the lines of the union.
abbrev pub union_out : List ℕ → List ℕ → ℕ → List ℕ → List ℕ → List ℕ
union_out views list mask text out = at_exit (union_answer views list mask text (length out)) (role_items views list mask text) out
