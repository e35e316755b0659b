-- `heads::tested` meets its contract: `*`, a test that is called, or a name. Assumes nothing.
use borrow.Author.Rules.{rules}
use mathlib.Core.Path.{◌≡◌, refl, sym, ◌∙◌}
use Prim.Native.Nat.{ℕ}
use Rattle.std.specs.Prelude.{Some, None, Ok, Err}
use Rattle.paper.specs.declared.Refusal.TheVariants.{NoQuery, UnknownName}
use Rattle.token.specs.declared.Token.TheVariants.{Mark}
use Rattle.token.specs.declared.Mark.TheVariants.{Star}
use Rattle.marks.proofs.Lexed.{is_mark, no_mark, mark_past, not_word, word_sort, none_letters, word_slice, word_past, taken_at}
use Rattle.heads.proofs.Heading.{tested_star, tested_wrong, tested_closed, tested_unclosed, tested_name, tested_unknown}
use Rattle.heads.proofs.Making.{star_made, wrong_made, closed_made, open_made, name_made, unknown_made}
use Rattle.heads.proofs.tested.Goals as goal

pub returns-then-eq-clause-heads : goal.returns-then-eq-clause-heads
returns-then-eq-clause-heads c =
    let t = c.take-place.ensures in
    let e : c.take-place.result.token ≡ Mark Star = search rules in
    λ newer a n. tested_star newer _ _ _ _ a n _ (is_mark _ _ _ t Star e) (mark_past _ _ _ t Star e)

pub returns-then-eq-clause-value : goal.returns-then-eq-clause-value
returns-then-eq-clause-value c =
    let t = c.take-place.ensures in
    let e : c.take-place.result.token ≡ Mark Star = search rules in
    star_made _ _ _ _ _ (is_mark _ _ _ t Star e) (mark_past _ _ _ t Star e)

pub returns-in_default : goal.returns-in_default
returns-in_default c =
    let t = c.take-place.ensures in
    let n : c.take-place.result.token ≡ Mark Star → ⊥ = search rules in
    let star = no_mark _ _ _ t Star n in
    let word = not_word _ _ _ t c.in_default.not-Word in
    record {
      heads = λ newer a e within.
          record {
            number = 3;
            place = c.take-place.result.place;
            told = refl;
            is = tested_wrong newer _ _ _ _ a e _ star word (none_letters _ _ _ t c.in_default.not-Word) (taken_at _ _ _ t) within;
          };
      value = wrong_made _ _ _ _ _ star word (taken_at _ _ _ t);
    }

-- A test that is called: its `)` is there or not.
pub returns-in_err-round-clause-heads : goal.returns-in_err-round-clause-heads
returns-in_err-round-clause-heads c =
    let t = c.take-place.ensures in
    let is = c.in-Word.is in
    let d = c.in-Some.ensures in
    let (place, closed, made) : (p : ℕ) × (c.mark.result ≡ Err p) × (c.from_residual.result ≡ Err (NoQuery p)) = search rules in
    let m = rw closed at c.mark.ensures in
    λ newer a n. rw made (λ within.
    record {
      number = 3;
      place = place;
      told = refl;
      is = tested_unclosed newer _ _ _ _ a n _ _ (word_sort _ _ _ t _ is) (word_slice _ _ _ t _ is) (word_past _ _ _ t _ is) _ _ d.0 d.1 d.2 d.3 _ m.0 m.1 within;
    })

pub returns-in_err-round-clause-value : goal.returns-in_err-round-clause-value
returns-in_err-round-clause-value c =
    let t = c.take-place.ensures in
    let is = c.in-Word.is in
    let d = c.in-Some.ensures in
    let (place, closed, made) : (p : ℕ) × (c.mark.result ≡ Err p) × (c.from_residual.result ≡ Err (NoQuery p)) = search rules in
    let m = rw closed at c.mark.ensures in
    made ∙ open_made _ _ _ _ _ _ (word_sort _ _ _ t _ is) (word_slice _ _ _ t _ is) (word_past _ _ _ t _ is) _ _ d.0 d.2 d.3 _ m.0 m.1

pub returns-in-Some-clause-heads : goal.returns-in-Some-clause-heads
returns-in-Some-clause-heads c =
    let t = c.take-place.ensures in
    let is = c.in-Word.is in
    let d = c.in-Some.ensures in
    let there : c.mark.result ≡ Ok c.in_ok-round.round = search rules in
    let m = rw there at c.mark.ensures in
    λ newer a n. tested_closed newer _ _ _ _ a n _ _ (word_sort _ _ _ t _ is) (word_slice _ _ _ t _ is) (word_past _ _ _ t _ is) _ _ d.0 d.1 d.2 d.3 _ m.0 m.2

pub returns-in-Some-clause-value : goal.returns-in-Some-clause-value
returns-in-Some-clause-value c =
    let t = c.take-place.ensures in
    let is = c.in-Word.is in
    let d = c.in-Some.ensures in
    let there : c.mark.result ≡ Ok c.in_ok-round.round = search rules in
    let m = rw there at c.mark.ensures in
    closed_made _ _ _ _ _ _ (word_sort _ _ _ t _ is) (word_slice _ _ _ t _ is) (word_past _ _ _ t _ is) _ _ d.0 d.2 d.3 _ m.0 m.2

-- A name: it is in the list or not.
pub returns-in_err-v-clause-heads : goal.returns-in_err-v-clause-heads
returns-in_err-v-clause-heads c =
    let t = c.take-place.ensures in
    let is = c.in-Word.is in
    let d = c.in_default-test_call.ensures in
    let (unknown, made) : (c.number.result ≡ None) × (c.from_residual-in_err-v.result ≡ Err (UnknownName c.take-place.result.place)) = search rules in
    let n = rw unknown at c.number.ensures.numbered in
    λ newer a e. rw made (λ within.
    record {
      number = 5;
      place = c.take-place.result.place;
      told = refl;
      is = tested_unknown newer _ _ _ _ a e _ _ (word_sort _ _ _ t _ is) (word_slice _ _ _ t _ is) (word_past _ _ _ t _ is) d _ (sym n) (taken_at _ _ _ t) within;
    })

pub returns-in_err-v-clause-value : goal.returns-in_err-v-clause-value
returns-in_err-v-clause-value c =
    let t = c.take-place.ensures in
    let is = c.in-Word.is in
    let d = c.in_default-test_call.ensures in
    let (unknown, made) : (c.number.result ≡ None) × (c.from_residual-in_err-v.result ≡ Err (UnknownName c.take-place.result.place)) = search rules in
    let n = rw unknown at c.number.ensures.numbered in
    made ∙ unknown_made _ _ _ _ _ _ (word_sort _ _ _ t _ is) (word_slice _ _ _ t _ is) (word_past _ _ _ t _ is) d _ (sym n) (taken_at _ _ _ t)

pub returns-clause-heads : goal.returns-clause-heads
returns-clause-heads c =
    let t = c.take-place.ensures in
    let is = c.in-Word.is in
    let d = c.in_default-test_call.ensures in
    let known : c.number.result ≡ Some c.in_ok-v.v = search rules in
    let n = rw known at c.number.ensures.numbered in
    let few = rw known at c.number.ensures.few in
    λ newer a e. tested_name newer _ _ _ _ a e _ _ (word_sort _ _ _ t _ is) (word_slice _ _ _ t _ is) (word_past _ _ _ t _ is) d _ (sym n) few

pub returns-clause-value : goal.returns-clause-value
returns-clause-value c =
    let t = c.take-place.ensures in
    let is = c.in-Word.is in
    let d = c.in_default-test_call.ensures in
    let known : c.number.result ≡ Some c.in_ok-v.v = search rules in
    let n = rw known at c.number.ensures.numbered in
    name_made _ _ _ _ _ _ (word_sort _ _ _ t _ is) (word_slice _ _ _ t _ is) (word_past _ _ _ t _ is) d _ (sym n)
