-- Meeting a test, by its number. Assumes nothing.
use Prim.Native.Nat.{ℕ}
use native.Mathlib.Omega.{arith}
use mathlib.Core.Path.{◌≡◌, refl, ap}
use mathlib.Core.Bool.{true}
use lib.Dec.{eqb, leb}
use borrow.Author.Tests.{ltb-true}
use Rattle.paper.specs.Limits.{names_limit}
use Rattle.paper.specs.Query.{Test, any_node, text_node, named, any_element}
use Rattle.paper.specs.Document.{element_kind}
use Rattle.paper.specs.Items.{test_number, good_test}
use Rattle.paper.specs.Selection.{meets}

-- `node()` is met by all,
pub meets_node : (t : Test) (kind : ℕ) → 0 ≡ test_number t → true ≡ meets t kind
meets_node any_node kind e = refl
meets_node text_node kind e = absurd (omega arith)
meets_node (named v) kind e = absurd (omega arith)
meets_node any_element kind e = absurd (omega arith)

-- text by text,
pub meets_text : (t : Test) (kind : ℕ) → 1 ≡ test_number t → eqb kind 1 ≡ meets t kind
meets_text any_node kind e = absurd (omega arith)
meets_text text_node kind e = refl
meets_text (named v) kind e = absurd (omega arith)
meets_text any_element kind e = absurd (omega arith)

-- `*` by elements,
pub meets_element : (t : Test) (kind : ℕ) → good_test t ≡ true → test_number any_element ≡ test_number t → leb element_kind kind ≡ meets t kind
meets_element any_node kind g e = absurd (omega arith)
meets_element text_node kind g e = absurd (omega arith)
meets_element (named v) kind g e = absurd (omega (arith, ltb-true v names_limit g))
meets_element any_element kind g e = refl

-- and a name by one kind.
pub meets_name : (t : Test) (kind n : ℕ) → n ≡ test_number t → (n ≡ 0 → ⊥) → (n ≡ 1 → ⊥) → (n ≡ test_number any_element → ⊥) → eqb kind n ≡ meets t kind
meets_name any_node kind n e a b c = absurd (a e)
meets_name text_node kind n e a b c = absurd (b e)
meets_name (named v) kind n e a b c = ap (eqb kind) e
meets_name any_element kind n e a b c = absurd (c e)
