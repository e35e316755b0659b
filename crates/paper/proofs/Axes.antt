-- The laws of the axes: their numbers, their words, and that a turned axis is the converse.
-- What tells one axis from another stands here as far as it can. A new axis touches
--   definitions: `Axis` in Query; `axis_number`, `axes` and `axis_of` in Items, with `axis_bound` and the layout where a number needs more bits; `axis_named` in Reading;
--     `axis_text` in Printing; `leads` in Selection; `turned` and `guarded` in Composition; `rises` in theorems/specs/Demands; rows for it in Samples;
--   code: the constants, `AXES`, `turn` and `guarded` of item; `axis_of` of axis_words; `put_axis` of put_axes; `axis_leads` of kin; `along` of axes, with a pass for it in vertical or sideways;
--   proofs: this file; theorems/proofs/Axes (it stays inside marks if it rises, it is guarded if it does not, and renumbering keeps it, by a law in Renumber); axis_words/proofs/Words (`in_order`) and axis_of (its word);
--     an arm in each of item/proofs/turn, item/proofs/guarded, put_axes/proofs/put_axis and axes/proofs/along; the proof of its pass;
--   edits: theorems/must-fail/descendant_turned_into_itself, which writes `turned` out;
--   tests in C: the axes, their words, `turned`, `guarded` and `leads` in tests/paper.c; those that tests/making.c makes; the numbers of no axis and the words of none in tests/refusals.c; rows in tests/samples.c;
--   pages: docs/VIEWS.md, and what else lists the axes.
-- No other proof splits on an axis. Assumes nothing.
use Prim.Native.Nat.{ℕ, zero, suc, ◌≤◌, ◌<◌}
use native.Mathlib.Omega.{arith}
use native.Mathlib.Decide.{dec_lt}
use mathlib.Core.Path.{◌≡◌, refl, sym, ◌∙◌, ap, subst}
use mathlib.Core.Bool.{true}
use mathlib.Core.Logic.{by_cases}
use mathlib.Core.Option.{none, some}
use lib.Dec.{eqb}
use lib.ListN.{length}
use borrow.Author.Tests.{eqb-true, eq-eqb}
use Rattle.paper.specs.Query.{Axis, self, child, parent, descendant_or_self, ancestor_or_self, descendant, ancestor, following_sibling, preceding_sibling, following, preceding}
use Rattle.paper.specs.Document.{Table}
use Rattle.paper.specs.Names.{is_name}
use Rattle.paper.specs.Items.{axis_number, axes, axis_of, axis_bound}
use Rattle.paper.specs.Printing.{axis_text, axis_text_limit}
use Rattle.paper.specs.Reading.{axis_named}
use Rattle.paper.specs.Selection.{leads}
use Rattle.paper.specs.Composition.{turned}
use Rattle.paper.proofs.Tests.{none-some, some_inj, agree}

-- THE NUMBERS. An axis is the one of its number;
pub axis-number : (a : Axis) → axis_of (axis_number a) ≡ some a
axis-number self = refl
axis-number child = refl
axis-number parent = refl
axis-number descendant_or_self = refl
axis-number ancestor_or_self = refl
axis-number descendant = refl
axis-number ancestor = refl
axis-number following_sibling = refl
axis-number preceding_sibling = refl
axis-number following = refl
axis-number preceding = refl

-- its number is below the number of axes,
pub axis_below : (a : Axis) → axis_number a < axes
axis_below self = omega arith
axis_below child = omega arith
axis_below parent = omega arith
axis_below descendant_or_self = omega arith
axis_below ancestor_or_self = omega arith
axis_below descendant = omega arith
axis_below ancestor = omega arith
axis_below following_sibling = omega arith
axis_below preceding_sibling = omega arith
axis_below following = omega arith
axis_below preceding = omega arith

-- and fits its field.
pub axis_small : (a : Axis) → axis_number a < axis_bound
axis_small a = omega (arith, axis_below a)

-- The axis of a number has that number.
pub axis_found : (n : ℕ) (a : Axis) → axis_of n ≡ some a → n ≡ axis_number a
axis_found zero a h = ap axis_number (let e : self ≡ a = cc in e)
axis_found (suc zero) a h = ap axis_number (let e : child ≡ a = cc in e)
axis_found (suc (suc zero)) a h = ap axis_number (let e : parent ≡ a = cc in e)
axis_found (suc (suc (suc zero))) a h = ap axis_number (let e : descendant_or_self ≡ a = cc in e)
axis_found (suc (suc (suc (suc zero)))) a h = ap axis_number (let e : ancestor_or_self ≡ a = cc in e)
axis_found (suc (suc (suc (suc (suc zero))))) a h = ap axis_number (let e : descendant ≡ a = cc in e)
axis_found (suc (suc (suc (suc (suc (suc zero)))))) a h = ap axis_number (let e : ancestor ≡ a = cc in e)
axis_found (suc (suc (suc (suc (suc (suc (suc zero))))))) a h = ap axis_number (let e : following_sibling ≡ a = cc in e)
axis_found (suc (suc (suc (suc (suc (suc (suc (suc zero)))))))) a h = ap axis_number (let e : preceding_sibling ≡ a = cc in e)
axis_found (suc (suc (suc (suc (suc (suc (suc (suc (suc zero))))))))) a h = ap axis_number (let e : following ≡ a = cc in e)
axis_found (suc (suc (suc (suc (suc (suc (suc (suc (suc (suc zero)))))))))) a h = ap axis_number (let e : preceding ≡ a = cc in e)
axis_found (suc (suc (suc (suc (suc (suc (suc (suc (suc (suc (suc n))))))))))) a h = none-some h

-- There is an axis of each number below the number of axes, and none of the others.
pub axis_some : (n : ℕ) → n < axes → (a : Axis) × (axis_of n ≡ some a)
axis_some zero l = (self, refl)
axis_some (suc zero) l = (child, refl)
axis_some (suc (suc zero)) l = (parent, refl)
axis_some (suc (suc (suc zero))) l = (descendant_or_self, refl)
axis_some (suc (suc (suc (suc zero)))) l = (ancestor_or_self, refl)
axis_some (suc (suc (suc (suc (suc zero))))) l = (descendant, refl)
axis_some (suc (suc (suc (suc (suc (suc zero)))))) l = (ancestor, refl)
axis_some (suc (suc (suc (suc (suc (suc (suc zero))))))) l = (following_sibling, refl)
axis_some (suc (suc (suc (suc (suc (suc (suc (suc zero)))))))) l = (preceding_sibling, refl)
axis_some (suc (suc (suc (suc (suc (suc (suc (suc (suc zero))))))))) l = (following, refl)
axis_some (suc (suc (suc (suc (suc (suc (suc (suc (suc (suc zero)))))))))) l = (preceding, refl)
axis_some (suc (suc (suc (suc (suc (suc (suc (suc (suc (suc (suc n))))))))))) l = absurd (omega arith)

pub axis_none : (n : ℕ) → axes ≤ n → axis_of n ≡ none
axis_none zero l = absurd (omega arith)
axis_none (suc zero) l = absurd (omega arith)
axis_none (suc (suc zero)) l = absurd (omega arith)
axis_none (suc (suc (suc zero))) l = absurd (omega arith)
axis_none (suc (suc (suc (suc zero)))) l = absurd (omega arith)
axis_none (suc (suc (suc (suc (suc zero))))) l = absurd (omega arith)
axis_none (suc (suc (suc (suc (suc (suc zero)))))) l = absurd (omega arith)
axis_none (suc (suc (suc (suc (suc (suc (suc zero))))))) l = absurd (omega arith)
axis_none (suc (suc (suc (suc (suc (suc (suc (suc zero)))))))) l = absurd (omega arith)
axis_none (suc (suc (suc (suc (suc (suc (suc (suc (suc zero))))))))) l = absurd (omega arith)
axis_none (suc (suc (suc (suc (suc (suc (suc (suc (suc (suc zero)))))))))) l = absurd (omega arith)
axis_none (suc (suc (suc (suc (suc (suc (suc (suc (suc (suc (suc n))))))))))) l = refl

-- What holds of the axis that an arm of a `match` names by its number holds of every axis of that number.
pub of_number : (P : Axis → Type 0) (b a : Axis) {n : ℕ} → n ≡ axis_number b → n ≡ axis_number a → P b → P a
of_number P b a p q = subst P (some_inj (sym (axis-number b) ∙ ap axis_of (sym p ∙ q) ∙ axis-number a))

-- What the last arm of a `match` on an axis knows, where each axis has an arm of its own;
abbrev pub NoAxis : ℕ → Type 0
NoAxis n = ((((((((((Unit × (n ≡ 0 → ⊥)) × (n ≡ 1 → ⊥)) × (n ≡ 2 → ⊥)) × (n ≡ 3 → ⊥)) × (n ≡ 4 → ⊥)) × (n ≡ 5 → ⊥)) × (n ≡ 6 → ⊥)) × (n ≡ 7 → ⊥)) × (n ≡ 8 → ⊥)) × (n ≡ 9 → ⊥)) × (n ≡ 10 → ⊥)

-- then the number is that of no axis.
pub no_axis : (a : Axis) (n : ℕ) → n ≡ axis_number a → NoAxis n → ⊥
no_axis self n e h = h.0.0.0.0.0.0.0.0.0.0.1 e
no_axis child n e h = h.0.0.0.0.0.0.0.0.0.1 e
no_axis parent n e h = h.0.0.0.0.0.0.0.0.1 e
no_axis descendant_or_self n e h = h.0.0.0.0.0.0.0.1 e
no_axis ancestor_or_self n e h = h.0.0.0.0.0.0.1 e
no_axis descendant n e h = h.0.0.0.0.0.1 e
no_axis ancestor n e h = h.0.0.0.0.1 e
no_axis following_sibling n e h = h.0.0.0.1 e
no_axis preceding_sibling n e h = h.0.0.1 e
no_axis following n e h = h.0.1 e
no_axis preceding n e h = h.1 e

pub no_axis_found : (n : ℕ) → NoAxis n → axis_of n ≡ none
no_axis_found n h =
    by_cases (dec_lt n axes) (λ l. let s = axis_some n l in absurd (no_axis s.0 n (axis_found n s.0 s.1) h)) (λ l. axis_none n (omega arith))

-- THE WORDS. The word of an axis names it,
pub axis-named : (a : Axis) → axis_named (axis_text a) ≡ some a
axis-named self = refl
axis-named child = refl
axis-named parent = refl
axis-named descendant_or_self = refl
axis-named ancestor_or_self = refl
axis-named descendant = refl
axis-named ancestor = refl
axis-named following_sibling = refl
axis-named preceding_sibling = refl
axis-named following = refl
axis-named preceding = refl

-- is a name,
pub axis_name : (a : Axis) → is_name (axis_text a) ≡ true
axis_name self = refl
axis_name child = refl
axis_name parent = refl
axis_name descendant_or_self = refl
axis_name ancestor_or_self = refl
axis_name descendant = refl
axis_name ancestor = refl
axis_name following_sibling = refl
axis_name preceding_sibling = refl
axis_name following = refl
axis_name preceding = refl

-- and is short.
pub axis_short : (a : Axis) → length (axis_text a) ≤ axis_text_limit
axis_short self = omega arith
axis_short child = omega arith
axis_short parent = omega arith
axis_short descendant_or_self = omega arith
axis_short ancestor_or_self = omega arith
axis_short descendant = omega arith
axis_short ancestor = omega arith
axis_short following_sibling = omega arith
axis_short preceding_sibling = omega arith
axis_short following = omega arith
axis_short preceding = omega arith

-- THE WAY BACK. A node is itself either way round;
pub same_turned : (i j : ℕ) → eqb i j ≡ eqb j i
same_turned i j = agree (eqb i j) (eqb j i) (λ h. eq-eqb j i (sym (eqb-true i j h))) (λ h. eq-eqb i j (sym (eqb-true j i h)))

-- THE TURNED AXIS IS THE CONVERSE.
pub converse : (t : Table) (a : Axis) (i j : ℕ) → leads t (turned a) i j ≡ leads t a j i
converse t self i j = same_turned i j
converse t child i j = refl
converse t parent i j = refl
converse t descendant_or_self i j = refl
converse t ancestor_or_self i j = refl
converse t descendant i j = refl
converse t ancestor i j = refl
converse t following_sibling i j = refl
converse t preceding_sibling i j = refl
converse t following i j = refl
converse t preceding i j = refl
