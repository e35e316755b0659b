-- What each function of this crate writes, counts or says, over lists of items.
use Rattle.std.specs.Prelude.{ℕ, ◌<◌, ◌≡◌, true, List, [], ◌∷◌, ◌++◌, length}
use Rattle.std.proofs.Math.Option.{Option, none, some}
use Rattle.paper.specs.Query.{Axis, Test, Steps, Query, paths}
use Rattle.paper.specs.Items.{axis_number, test_number, Head, step_at, encode_expr, decode, good_test, count_bound}
use Rattle.paper.specs.Composition.{reversed, selected_by}
use Rattle.item.specs.declared.Step.{Step}

-- The items are a query.
pub record IsQuery (items : List ℕ) : Type 0 where
  pub query : Query
  pub decodes : decode items ≡ some query

-- How many top-level paths they have.
abbrev pub paths_got : Option Query → ℕ
paths_got none = 0
paths_got (some q) = length (paths q)

-- A number that is a step says this; what is told of any other number is some step.
pub record StepSaid (w : ℕ) (s : Step) : Type 0 where
  pub axis : Axis
  pub test : Test
  pub axis_is : s.axis ≡ axis_number axis
  pub test_is : s.test ≡ test_number test
  pub fine : good_test test ≡ true
  pub small : s.count < count_bound
  pub told : (h : Head) → step_at w ≡ some h → (axis ≡ h.axis) × (test ≡ h.test) × (s.count ≡ h.count)

-- The reverse of a path.
abbrev pub reversed_items : Steps → List ℕ
reversed_items p = encode_expr (reversed p)

-- What is made of each path, one after the other.
abbrev pub each_path : (Steps → List ℕ) → List Steps → List ℕ
each_path made [] = []
each_path made (p ∷ ps) = made p ++ each_path made ps

abbrev pub each_got : (Steps → List ℕ) → Option Query → List ℕ
each_got made none = []
each_got made (some q) = each_path made (paths q)

-- The items of S.
abbrev pub selected_got : Option Query → List ℕ
selected_got none = []
selected_got (some q) = encode_expr (selected_by q)
