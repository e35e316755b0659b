-- `token::mark_at` meets its contract: in each arm the byte is known, and the paper's choice computes. Assumes nothing.
use Prim.Native.Nat.{ℕ, suc, ◌<◌}
use native.Mathlib.Omega.{arith}
use borrow.Author.Tests.{ne_eqb}
use mathlib.Core.Path.{◌≡◌, refl, sym, ◌∙◌}
use mathlib.Core.Bool.{true, false}
use mathlib.Core.List.{List}
use lib.ListN.{length, get_or, drop}
use Rattle.paper.specs.Tools.{begins}
use Rattle.paper.specs.Tokens.{token_at, beyond}
use Rattle.paper.proofs.Lexing.{begins_within}
use Rattle.token.specs.declared.Token.{Token}
use Rattle.token.specs.declared.Token.TheVariants.{Mark, Stray}
use Rattle.token.specs.declared.Mark.TheVariants.{Slash, Slashes, Dot, Dots, Colons, Bar, OpenSquare, CloseSquare, OpenRound, CloseRound, Star}
use Rattle.token.specs.Taking.{token_of, width_of, finished, Longest}
use Rattle.token.proofs.mark_at.Goals as goal

-- A byte that stands twice is a token of two bytes.
double : (text : List ℕ) (place b : ℕ) (t : Token) → width_of t ≡ 2 → suc (beyond (token_of text place t)) ≡ 2 → finished t ≡ false → get_or text place 0 ≡ b
    → ((bs : List ℕ) → begins b bs ≡ true → token_of text place t ≡ token_at b bs) → begins b (drop (suc place) text) ≡ true → Longest text place t
double text place b t width wide goes_on here chosen twice =
    record {
      right = rw here (chosen (drop (suc place) text) twice);
      wide = width ∙ sym wide;
      within = rw width (omega (arith, begins_within b (suc place) text twice));
      goes_on = goes_on;
    }

-- Any other is a token of one byte.
single : (text : List ℕ) (place b : ℕ) (t : Token) → width_of t ≡ 1 → suc (beyond (token_of text place t)) ≡ 1 → finished t ≡ false → place < length text → get_or text place 0 ≡ b
    → token_of text place t ≡ token_at b (drop (suc place) text) → Longest text place t
single text place b t width wide goes_on inside here chosen =
    record { right = rw here chosen; wide = width ∙ sym wide; within = rw width (omega arith); goes_on = goes_on }

pub returns-then-follows : goal.returns-then-follows
unfolding token_at
returns-then-follows c = double _ _ 47 (Mark Slashes) refl refl refl c.in-47.is (λ bs h. rw h) (sym c.follows.ensures ∙ c.if-follows.true)

pub returns-else-follows : goal.returns-else-follows
unfolding token_at
returns-else-follows c = single _ _ 47 (Mark Slash) refl refl refl c.requires.place_in_bounds c.in-47.is (rw (sym c.follows.ensures ∙ c.if-follows.false))

pub returns-then-follows-2 : goal.returns-then-follows-2
unfolding token_at
returns-then-follows-2 c = double _ _ 46 (Mark Dots) refl refl refl c.in-46.is (λ bs h. rw h) (sym c.follows-in-46.ensures ∙ c.if-follows-2.true)

pub returns-else-follows-2 : goal.returns-else-follows-2
unfolding token_at
returns-else-follows-2 c = single _ _ 46 (Mark Dot) refl refl refl c.requires.place_in_bounds c.in-46.is (rw (sym c.follows-in-46.ensures ∙ c.if-follows-2.false))

pub returns-then-follows-3 : goal.returns-then-follows-3
unfolding token_at
returns-then-follows-3 c = double _ _ 58 (Mark Colons) refl refl refl c.in-58.is (λ bs h. rw h) (sym c.follows-in-58.ensures ∙ c.if-follows-3.true)

pub returns-else-follows-3 : goal.returns-else-follows-3
unfolding token_at
returns-else-follows-3 c = single _ _ 58 Stray refl refl refl c.requires.place_in_bounds c.in-58.is (rw (sym c.follows-in-58.ensures ∙ c.if-follows-3.false))

pub returns-in-124 : goal.returns-in-124
unfolding token_at
returns-in-124 c = single _ _ 124 (Mark Bar) refl refl refl c.requires.place_in_bounds c.in-124.is refl

pub returns-in-91 : goal.returns-in-91
unfolding token_at
returns-in-91 c = single _ _ 91 (Mark OpenSquare) refl refl refl c.requires.place_in_bounds c.in-91.is refl

pub returns-in-93 : goal.returns-in-93
unfolding token_at
returns-in-93 c = single _ _ 93 (Mark CloseSquare) refl refl refl c.requires.place_in_bounds c.in-93.is refl

pub returns-in-40 : goal.returns-in-40
unfolding token_at
returns-in-40 c = single _ _ 40 (Mark OpenRound) refl refl refl c.requires.place_in_bounds c.in-40.is refl

pub returns-in-41 : goal.returns-in-41
unfolding token_at
returns-in-41 c = single _ _ 41 (Mark CloseRound) refl refl refl c.requires.place_in_bounds c.in-41.is refl

pub returns-in-42 : goal.returns-in-42
unfolding token_at
returns-in-42 c = single _ _ 42 (Mark Star) refl refl refl c.requires.place_in_bounds c.in-42.is refl

pub returns-in_default : goal.returns-in_default
unfolding token_at
returns-in_default c =
    let b = get_or c.args.text.now c.args.place 0 in
    single _ _ b Stray refl refl refl c.requires.place_in_bounds refl
    (rw (
      c.requires.place_value,
      ne_eqb b 47 (λ e. omega arith),
      ne_eqb b 46 (λ e. omega arith),
      ne_eqb b 58 (λ e. omega arith),
      ne_eqb b 124 (λ e. omega arith),
      ne_eqb b 91 (λ e. omega arith),
      ne_eqb b 93 (λ e. omega arith),
      ne_eqb b 40 (λ e. omega arith),
      ne_eqb b 41 (λ e. omega arith),
      ne_eqb b 42 (λ e. omega arith),
    ))
