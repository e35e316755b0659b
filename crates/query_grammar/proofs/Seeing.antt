-- What a test on the next token says, and how to take apart what a reader got.
-- Assumes nothing.
use Prim.Native.Nat.{ℕ}
use native.Mathlib.Omega.{arith}
use mathlib.Core.Path.{◌≡◌, refl, sym, ◌∙◌, ap, subst₂}
use mathlib.Core.Bool.{Bool, true, false, cond, false≢true}
use mathlib.Core.List.{List, [], ◌∷◌}
use lib.Dec.{eqb}
use lib.ListN.{drop}
use borrow.Author.Tests.{eqb-true}
use Rattle.paper.specs.Tokens.{Token, slash, slashes, dot, dots, colons, bar, open_square, close_square, open_round, close_round, star, finish, stray, word, sort, is, letters, Placed}
use Rattle.paper.specs.Reading.{Got, got, refused, then, next, at, sees, says, pass}
use Rattle.paper.proofs.Same.{same_equal}
use Rattle.query_grammar.specs.Grammar.{tok}

-- The token of a sort, with these letters if it is a word.
abbrev pub of_sort : ℕ → List ℕ → Token
of_sort n w =
    cond (eqb n 0) slash
    (cond (eqb n 1) slashes
    (cond (eqb n 2) dot
    (cond (eqb n 3) dots
    (cond (eqb n 4) colons
    (cond (eqb n 5) bar
    (cond (eqb n 6) open_square
    (cond (eqb n 7) close_square
    (cond (eqb n 8) open_round
    (cond (eqb n 9) close_round
    (cond (eqb n 10) star
    (cond (eqb n 11) finish
    (cond (eqb n 12) stray
    (word w)))))))))))))

of-sort : (t : Token) → of_sort (sort t) (letters t) ≡ t
of-sort slash = refl
of-sort slashes = refl
of-sort dot = refl
of-sort dots = refl
of-sort colons = refl
of-sort bar = refl
of-sort open_square = refl
of-sort close_square = refl
of-sort open_round = refl
of-sort close_round = refl
of-sort star = refl
of-sort finish = refl
of-sort stray = refl
of-sort (word w) = refl

-- Tokens of one sort are one token, but for the letters of words.
pub same_sort : (t u : Token) → is t u ≡ true → of_sort (sort t) (letters u) ≡ u
same_sort t u h = ap (λ n. of_sort n (letters u)) (eqb-true (sort t) (sort u) h) ∙ of-sort u

-- The token seen is the next one; the end of the text is seen also where no token is left.
pub seen : (t : Token) (ts : List Placed) → is t finish ≡ false → sees t ts ≡ true → ts ≡ tok (at ts) (of_sort (sort t) (letters (next ts))) ∷ drop 1 ts
seen t [] n h = absurd (false≢true (sym n ∙ h))
seen t (u ∷ us) n h = ap (λ x. tok u.place x ∷ us) (sym (same_sort t u.token h))

-- What is no word has no letters.
pub not_word : (t : Token) → is (word []) t ≡ false → letters t ≡ []
not_word slash h = refl
not_word slashes h = refl
not_word dot h = refl
not_word dots h = refl
not_word colons h = refl
not_word bar h = refl
not_word open_square h = refl
not_word close_square h = refl
not_word open_round h = refl
not_word close_round h = refl
not_word star h = refl
not_word finish h = refl
not_word stray h = refl
not_word (word w) h = absurd (false≢true (sym h))

-- What has letters is a word.
has_letters : (x : ℕ) (w : List ℕ) (t : Token) → x ∷ w ≡ letters t → word (x ∷ w) ≡ t
has_letters x w t h = go (is (word []) t) refl
  where
    go : (b : Bool) → is (word []) t ≡ b → word (x ∷ w) ≡ t
    go true k = ap word h ∙ same_sort (word []) t k
    go false k = absurd (let e : x ∷ w ≡ [] = h ∙ not_word t k in let z : ◌≡◌ {A = ℕ} 0 1 = cc in omega arith)

pub lettered : (x : ℕ) (w : List ℕ) (ts : List Placed) → x ∷ w ≡ letters (next ts) → ts ≡ tok (at ts) (word (x ∷ w)) ∷ drop 1 ts
lettered x w [] h = absurd (let z : ◌≡◌ {A = ℕ} 0 1 = cc in omega arith)
lettered x w (u ∷ us) h = ap (λ t. tok u.place t ∷ us) (sym (has_letters x w u.token h))

pub said : (x : ℕ) (w : List ℕ) (ts : List Placed) → says (x ∷ w) ts ≡ true → ts ≡ tok (at ts) (word (x ∷ w)) ∷ drop 1 ts
said x w ts h = lettered x w ts (same_equal (x ∷ w) (letters (next ts)) h)

-- A choice made.
pub chosen {ℓ} : {A : Type 0} {C : Type ℓ} (b : Bool) {x y r : A} → cond b x y ≡ r → (b ≡ true → x ≡ r → C) → (b ≡ false → y ≡ r → C) → C
chosen true h f g = f refl h
chosen false h f g = g refl h

-- A refusal got nothing.
pub not-got {ℓ} : {A : Type 0} {a : A} {left : List Placed} {n p : ℕ} {C : Type ℓ} → refused n p ≡ got a left → C
not-got h = absurd (let z : ◌≡◌ {A = ℕ} 0 1 = cc in omega arith)

-- What was got is one thing.
pub got_value : {A : Type 0} {a b : A} {l m : List Placed} → got a l ≡ got b m → a ≡ b
got_value h = cc

pub got_left : {A : Type 0} {a b : A} {l m : List Placed} → got a l ≡ got b m → l ≡ m
got_left h = cc

pub as_got : {A : Type 0} {a b : A} {l m : List Placed} (P : A → List Placed → Type 0) → got a l ≡ got b m → P a l → P b m
as_got P h x = subst₂ P (got_value h) (got_left h) x

-- Two readers after each other got something: so did each.
pub then_got {ℓ} : {A B : Type 0} {C : Type ℓ} (r : Got A) (more : A → List Placed → Got B) {b : B} {left : List Placed} → then r more ≡ got b left
    → ((a : A) (mid : List Placed) → r ≡ got a mid → more a mid ≡ got b left → C) → C
then_got (got a mid) more h k = k a mid refl h
then_got (refused n p) more h k = not-got h

-- A token passed over.
pub passed {ℓ} : {A : Type 0} {C : Type ℓ} (t : Token) (a : A) (ts : List Placed) {b : A} {left : List Placed} → pass t a ts ≡ got b left
    → (sees t ts ≡ true → a ≡ b → drop 1 ts ≡ left → C) → C
passed t a ts h k = chosen (sees t ts) h (λ s e. k s (got_value e) (got_left e)) (λ s e. not-got e)
