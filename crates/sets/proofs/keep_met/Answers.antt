-- `sets::keep_met`: a test is known by its number, and the test of the pass for it is what is asked.
use Rattle.std.proofs.Common.{rules, arith, ◌≡◌, Bool, ◌&&◌, ℕ, length, get_or, bit_and, ◌∙◌, ap, sym, refl}
use mathlib.Core.Path.{ap₂}
use native.Mathlib.Decide.{ℕ_discrete}
use mathlib.Core.Logic.{by_cases}
use lib.Dec.{eqb, leb}
use Rattle.paper.specs.Query.{Test, any_element}
use Rattle.paper.specs.Document.{element_kind}
use Rattle.paper.specs.Items.{test_number}
use Rattle.paper.specs.Selection.{meets}
use Rattle.item.proofs.Meeting.{meets_text, meets_element, meets_name}
use Rattle.sets.proofs.Bits.{bit, bits_at, bits_of, and_bits}
use Rattle.sets.proofs.keep_met.Goals as goal

-- Text and names are met by one kind, whose number the test has.
meets_kind : (t : Test) (kind n : ℕ) → n ≡ test_number t → (n ≡ 0 → ⊥) → (n ≡ test_number any_element → ⊥) → eqb kind n ≡ meets t kind
meets_kind t kind n e a b = by_cases (ℕ_discrete n 1) (λ q. ap (eqb kind) q ∙ meets_text t kind (sym q ∙ e)) (λ q. meets_name t kind n e a q b)

-- A byte kept by a test of the kind, which says what is asked.
kept : (a b c : Bool) → b ≡ c → {x y : ℕ} → x ≡ bit a → y ≡ bit b → bit_and x y ≡ bit (a && c)
kept a b c e p q = ap₂ bit_and p q ∙ and_bits a b ∙ ap (λ x. bit (a && x)) e

pub returns-in-258 : goal.returns-in-258
returns-in-258 c = λ t f g e p.
    let n = length c.args.set.now in
    bits_of n (λ i. f i && meets t (get_or c.args.kind.now i 0)) c.each.ensures.len
    (λ k l.
    let m = c.each.ensures.made k l in
    let kind = get_or c.args.kind.now k 0 in
    let h : get_or c.each.new.set k 0 ≡ bit_and (get_or c.args.set.now k 0) (bit (leb element_kind kind)) = search rules in
    h ∙ kept (f k) (leb element_kind kind) (meets t kind) (meets_element t kind g (sym c.in-258.is ∙ e)) (bits_at n f p k l) refl)

pub returns-in_default : goal.returns-in_default
returns-in_default c = λ t f g e p.
    let n = length c.args.set.now in
    bits_of n (λ i. f i && meets t (get_or c.args.kind.now i 0)) c.each-in_default.ensures.len
    (λ k l.
    let m = c.each-in_default.ensures.made k l in
    let kind = get_or c.args.kind.now k 0 in
    let h : get_or c.each-in_default.new.set k 0 ≡ bit_and (get_or c.args.set.now k 0) (bit (eqb kind c.args.test)) = search rules in
    let z : c.args.test ≡ 0 → ⊥ = λ q. omega arith in
    let w : c.args.test ≡ test_number any_element → ⊥ = λ q. omega arith in
    h ∙ kept (f k) (eqb kind c.args.test) (meets t kind) (meets_kind t kind c.args.test e z w) (bits_at n f p k l) refl)
