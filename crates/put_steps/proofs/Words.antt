-- The words of tests by their numbers, and the text of a step's head in either form. Assumes nothing.
use Prim.Native.Nat.{ℕ, zero, suc, ◌-◌, ◌≤◌, ◌<◌}
use native.Mathlib.Omega.{arith}
use mathlib.Core.Path.{◌≡◌, refl, sym, ◌∙◌, ap}
use mathlib.Core.Bool.{Bool, true, false, ◌&&◌, cond}
use mathlib.Core.List.{List, [], ◌∷◌, ◌++◌, append_assoc, append-nil}
use mathlib.Core.Logic.{◌⊎◌, inl, inr, ⊎_elim}
use lib.Dec.{eqb, ltb}
use lib.ListN.{get_or}
use borrow.Author.Tests.{ltb-true, ltb-false}
use Rattle.paper.proofs.Tests.{decide}
use Rattle.paper.specs.Tools.{ascii}
use Rattle.paper.specs.Limits.{names_limit}
use Rattle.paper.specs.Query.{Axis, self, child, Test, any_node, text_node, named, any_element}
use Rattle.paper.specs.Items.{axis_number, named_from, test_number, good_test}
use Rattle.paper.specs.Printing.{Piece, colons_sign, axis_word, test_word, axis_text, test_text, plain, head_pieces, text_of}
use Rattle.put_axes.specs.Along.{along}

-- The word of a test.
module _ (names : List (List ℕ)) where
  pub test_node : (t : Test) → test_number t ≡ 0 → ascii "node()" ≡ test_text names t
  test_node any_node h = refl
  test_node text_node h = absurd (omega arith)
  test_node (named v) h = absurd (omega arith)
  test_node any_element h = absurd (omega arith)

  pub test-text : (t : Test) → test_number t ≡ 1 → ascii "text()" ≡ test_text names t
  test-text any_node h = absurd (omega arith)
  test-text text_node h = refl
  test-text (named v) h = absurd (omega arith)
  test-text any_element h = absurd (omega arith)

  pub test_star : (t : Test) → good_test t ≡ true → test_number t ≡ test_number any_element → ascii "*" ≡ test_text names t
  test_star any_node g h = absurd (omega arith)
  test_star text_node g h = absurd (omega arith)
  test_star (named v) g h = absurd (omega (arith, ltb-true v names_limit g))
  test_star any_element g h = refl

  pub test_named : (t : Test) (n : ℕ) → n ≡ test_number t → (n ≡ 0 → ⊥) → (n ≡ 1 → ⊥) → (n ≡ test_number any_element → ⊥) → test_text names (named (n - named_from)) ≡ test_text names t
  test_named any_node n e h i j = absurd (h e)
  test_named text_node n e h i j = absurd (i e)
  test_named (named v) n e h i j = let d : n - named_from ≡ v = omega arith in ap (λ k. get_or names k []) d
  test_named any_element n e h i j = absurd (j e)

-- A number that is neither 0 nor 1 is above them; one that is not its bound is below it.
pub above : (n : ℕ) → (n ≡ 0 → ⊥) → (n ≡ 1 → ⊥) → named_from ≤ n
above zero h i = absurd (h refl)
above (suc zero) h i = absurd (i refl)
above (suc (suc n)) h i = omega arith

pub below : (n m : ℕ) → n ≤ m → (n ≡ m → ⊥) → n < m
below n m l h = ⊎_elim (λ e. absurd (h e)) (λ k. k) (split n m l)
  where
    split : (i j : ℕ) → i ≤ j → (i ≡ j) ⊎ (i < j)
    split i j k = ⊎_elim (λ e. inr (ltb-true i j e)) (λ e. inl (let g : j ≤ i = ltb-false i j e in omega arith)) (decide (ltb i j))

-- What is asked of the numbers of a step for `.` and `..`: the axis, `node()` and no predicate.
abbrev pub Asked : Bool → Axis → ℕ → ℕ → ℕ → Bool → Type 0
Asked brief wanted n m count is = brief && (eqb n (axis_number wanted) && eqb m (test_number any_node) && eqb count 0) ≡ is

-- The text of a head, by what was asked.
module _ (names : List (List ℕ)) (brief : Bool) (a : Axis) (t : Test) (n m count : ℕ) (e : n ≡ axis_number a) (f : m ≡ test_number t) where
  found : (wanted : Axis) (is : Bool) → Asked brief wanted n m count is → brief && plain wanted a t count ≡ is
  found wanted is h = rw (e, f) at h

  pub dot_text : Asked brief self n m count true → ascii "." ≡ text_of names (head_pieces brief a t count)
  unfolding head_pieces
  dot_text h = rw (found self true h)

  pub dots_text : Asked brief self n m count false → Asked brief Axis.parent n m count true → ascii ".." ≡ text_of names (head_pieces brief a t count)
  unfolding head_pieces
  dots_text h i = rw (found self false h, found Axis.parent true i)

  pub head_text : Asked brief self n m count false → Asked brief Axis.parent n m count false → along brief a ++ test_text names t ≡ text_of names (head_pieces brief a t count)
  unfolding head_pieces
  head_text h i = rw (found self false h, found Axis.parent false i) (go (brief && eqb (axis_number a) (axis_number child)))
    where
      told : List Piece
      told = axis_word a ∷ colons_sign ∷ test_word t ∷ []

      go : (b : Bool) → cond b [] (axis_text a ++ ascii "::") ++ test_text names t ≡ text_of names (cond b (test_word t ∷ []) told)
      go true = sym (append-nil (test_text names t))
      go false =
          append_assoc (axis_text a) (ascii "::") (test_text names t) ∙ ap (λ (ys : List ℕ). axis_text a ++ (ascii "::" ++ ys)) (sym (append-nil (test_text names t)))
