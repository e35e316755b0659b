-- How the head of a step is told, and where `//` stands for a step: each claim on pieces is shown for the few ways that there are, and holds then in either form.
-- By splitting the tests of the definition once. Assumes nothing.
use Prim.Native.Nat.{ℕ, ◌<◌}
use native.Mathlib.Omega.{arith}
use mathlib.Core.Path.{◌≡◌, refl}
use mathlib.Core.Bool.{Bool, true, false, ◌&&◌, cond}
use mathlib.Core.List.{List, [], ◌∷◌}
use lib.Dec.{eqb, ltb}
use borrow.Author.Tests.{eqb-true, ltb-true}
use Rattle.paper.specs.Query.{Axis, self, child, descendant_or_self, Test, any_node, text_node, named, any_element, Steps, step, Preds, bare, pred}
use Rattle.paper.specs.Items.{axis_number, test_number, step_count, pred_count}
use Rattle.paper.specs.Printing.{Piece, slash_sign, slashes_sign, dot_sign, dots_sign, colons_sign, axis_word, test_word}
use Rattle.paper.specs.Printing.{plain, head_pieces, deepened, relative_pieces, later_pieces}
use Rattle.paper.proofs.Tests.{and_true}
use Rattle.paper.proofs.Axes.{of_number}

-- One or the other.
chosen : (P : List Piece → Type 0) (b : Bool) (ps qs : List Piece) → (b ≡ true → P ps) → P qs → P (cond b ps qs)
chosen P true ps qs p q = p refl
chosen P false ps qs p q = q

-- The axis and the test of a number are what has that number.
axis_is : (a b : Axis) → eqb (axis_number a) (axis_number b) ≡ true → a ≡ b
axis_is a b h = of_number (λ x. a ≡ x) a b refl (eqb-true (axis_number a) (axis_number b) h) refl

test_is : (t : Test) → eqb (test_number t) (test_number any_node) ≡ true → t ≡ any_node
test_is any_node h = refl
test_is text_node h = absurd (omega (arith, eqb-true 1 0 h))
test_is (named v) h = absurd (omega (arith, eqb-true (test_number (named v)) 0 h))
test_is any_element h = absurd (omega (arith, eqb-true 258 0 h))

pub none_there : (ps : Preds) → pred_count ps ≡ 0 → ps ≡ bare
none_there bare h = refl
none_there (pred e ps) h = absurd (omega arith)

-- A step along an axis with `node()` and no predicate.
pub record Plain (along a : Axis) (t : Test) (count : ℕ) : Type 0 where
  pub axis : a ≡ along
  pub test : t ≡ any_node
  pub none : count ≡ 0

is_plain : (along a : Axis) (t : Test) (count : ℕ) → plain along a t count ≡ true → Plain along a t count
is_plain along a t count h =
    let p = and_true (eqb (axis_number a) (axis_number along) && eqb (test_number t) (test_number any_node)) (eqb count 0) h in
    let q = and_true (eqb (axis_number a) (axis_number along)) (eqb (test_number t) (test_number any_node)) p.0 in
    record { axis = axis_is a along q.0; test = test_is t q.1; none = eqb-true count 0 p.1 }

-- THE HEAD of a step, one of four.
pub by_head : (P : List Piece → Type 0) (brief : Bool) (a : Axis) (t : Test) (count : ℕ) → (Plain self a t count → P (dot_sign ∷ [])) → (Plain Axis.parent a t count → P (dots_sign ∷ []))
    → (a ≡ child → P (test_word t ∷ [])) → P (axis_word a ∷ colons_sign ∷ test_word t ∷ []) → P (head_pieces brief a t count)
unfolding head_pieces
by_head P brief a t count one two apart told =
    let dots : List Piece = dots_sign ∷ [] in
    let all : List Piece = axis_word a ∷ colons_sign ∷ test_word t ∷ [] in
    let test = cond (brief && eqb (axis_number a) (axis_number child)) (test_word t ∷ []) all in
    chosen P (brief && plain self a t count) (dot_sign ∷ []) (cond (brief && plain Axis.parent a t count) dots test)
    (λ h. one (is_plain self a t count (and_true brief (plain self a t count) h).1))
    (chosen P (brief && plain Axis.parent a t count) dots test (λ h. two (is_plain Axis.parent a t count (and_true brief (plain Axis.parent a t count) h).1))
    (chosen P (brief && eqb (axis_number a) (axis_number child)) (test_word t ∷ []) all (λ h. apart (axis_is a child (and_true brief (eqb (axis_number a) (axis_number child)) h).1)) told))

-- A step that `//` stands for has no predicate, and a step follows it.
pub record Deep (brief : Bool) (a : Axis) (t : Test) (ps : Preds) (rest : Steps) : Type 0 where
  pub short : brief ≡ true
  pub axis : a ≡ descendant_or_self
  pub test : t ≡ any_node
  pub preds : ps ≡ bare
  pub more : 0 < step_count rest

is_deep : (brief : Bool) (a : Axis) (t : Test) (ps : Preds) (rest : Steps) → deepened brief a t (pred_count ps) (step_count rest) ≡ true → Deep brief a t ps rest
unfolding deepened
is_deep brief a t ps rest h =
    let p = and_true (brief && plain descendant_or_self a t (pred_count ps)) (ltb 0 (step_count rest)) h in
    let q = and_true brief (plain descendant_or_self a t (pred_count ps)) p.0 in
    let d = is_plain descendant_or_self a t (pred_count ps) q.1 in
    record { short = q.0; axis = d.axis; test = d.test; preds = none_there ps d.none; more = ltb-true 0 (step_count rest) p.1 }

-- A LATER STEP, with its `/`, or told by `//`.
pub by_later : (P : List Piece → Type 0) (brief : Bool) (a : Axis) (t : Test) (ps : Preds) (rest : Steps) → (Deep brief a t ps rest → P (slashes_sign ∷ relative_pieces brief rest))
    → P (slash_sign ∷ relative_pieces brief (step a t ps rest)) → P (later_pieces brief (step a t ps rest))
by_later P brief a t ps rest deep told =
    chosen P (deepened brief a t (pred_count ps) (step_count rest)) (slashes_sign ∷ relative_pieces brief rest) (slash_sign ∷ relative_pieces brief (step a t ps rest))
    (λ h. deep (is_deep brief a t ps rest h)) told
