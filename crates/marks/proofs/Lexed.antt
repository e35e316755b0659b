-- What a token that was taken says of the paper's tokens from there on: its sort, its letters, its place, and where it ends. Assumes nothing.
use Prim.Native.Nat.{ℕ, suc, ◌+◌, ◌-◌, ◌≤◌, ◌<◌}
use native.Mathlib.Omega.{arith}
use mathlib.Core.Path.{◌≡◌, refl, sym, ◌∙◌, ap, subst}
use mathlib.Core.Bool.{Bool, true, false, cond, false≢true}
use mathlib.Core.Logic.{⊎_elim}
use mathlib.Core.List.{List, [], ◌∷◌}
use lib.Dec.{eqb}
use lib.ListN.{length, get_or, take, drop, length-drop}
use lib.Seq.{drop-cons, length-take-le}
use borrow.Author.Tests.{eq-eqb, ne_eqb, eqb-true}
use Rattle.paper.specs.Tools.{begins, same}
use Rattle.paper.specs.Names.{name_start}
use Rattle.paper.specs.Tokens as paper
use Rattle.paper.specs.Tokens.{sort, letters, beyond, token_at, tokens_from}
use Rattle.paper.specs.Reading.{next, at, sees}
use Rattle.paper.proofs.Tests.{decide}
use Rattle.token.specs.declared.Token.{Token}
use Rattle.token.specs.declared.Token.TheVariants.{Mark, Word, Finish, Stray}
use Rattle.token.specs.declared.Mark.{Mark as MarkKind}
use Rattle.token.specs.declared.Mark.TheVariants.{Slash, Slashes, Dot, Dots, Colons, Bar, OpenSquare, CloseSquare, OpenRound, CloseRound, Star}
use Rattle.token.specs.declared.Taken.{Taken}
use Rattle.token.specs.Taking.{Takes, mark_of, token_of, width_of, finished}
use Rattle.std.specs.Prelude.{Ok, Err}
use Rattle.marks.specs.Marks.{tokens_at, end_of, Past, Looks, leads, OtherByte}

-- Marks are of the first sorts, those before the end of the text.
abbrev pub mark_sorts : ℕ
mark_sorts = sort paper.finish

pub mark_few : (m : MarkKind) → sort (mark_of m) < mark_sorts
mark_few Slash = omega arith
mark_few Slashes = omega arith
mark_few Dot = omega arith
mark_few Dots = omega arith
mark_few Colons = omega arith
mark_few Bar = omega arith
mark_few OpenSquare = omega arith
mark_few CloseSquare = omega arith
mark_few OpenRound = omega arith
mark_few CloseRound = omega arith
mark_few Star = omega arith

-- Two marks of one sort are the same.
abbrev of_sort : ℕ → MarkKind
of_sort n = get_or (Slash ∷ Slashes ∷ Dot ∷ Dots ∷ Colons ∷ Bar ∷ OpenSquare ∷ CloseSquare ∷ OpenRound ∷ CloseRound ∷ Star ∷ []) n Slash

of_sort_of : (m : MarkKind) → of_sort (sort (mark_of m)) ≡ m
of_sort_of Slash = refl
of_sort_of Slashes = refl
of_sort_of Dot = refl
of_sort_of Dots = refl
of_sort_of Colons = refl
of_sort_of Bar = refl
of_sort_of OpenSquare = refl
of_sort_of CloseSquare = refl
of_sort_of OpenRound = refl
of_sort_of CloseRound = refl
of_sort_of Star = refl

same_mark : (m n : MarkKind) → sort (mark_of m) ≡ sort (mark_of n) → m ≡ n
same_mark m n e = sym (of_sort_of m) ∙ ap of_sort e ∙ of_sort_of n

-- A mark takes as many bytes as the paper's.
mark_wide : (m : MarkKind) → width_of (Mark m) ≡ suc (beyond (mark_of m))
mark_wide Slash = refl
mark_wide Slashes = refl
mark_wide Dot = refl
mark_wide Dots = refl
mark_wide Colons = refl
mark_wide Bar = refl
mark_wide OpenSquare = refl
mark_wide CloseSquare = refl
mark_wide OpenRound = refl
mark_wide CloseRound = refl
mark_wide Star = refl

-- So does a token that is not the end.
wide : (text : List ℕ) (place : ℕ) (t : Token) → finished t ≡ false → 0 < width_of t → place + width_of t ≤ length text → width_of t ≡ suc (beyond (token_of text place t))
wide text place (Mark m) f some l = mark_wide m
wide text place (Word count) f some l =
    let long : length (take count (drop place text)) ≡ count = length-take-le count (drop place text) (simp length-drop (omega arith)) in
    rw long (omega arith)
wide text place Finish f some l = absurd (false≢true (sym f))
wide text place Stray f some l = refl

-- A token that is another than a mark is of another sort.
other_sort : (text : List ℕ) (place : ℕ) (m : MarkKind) (t : Token) → (t ≡ Mark m → ⊥) → sort (mark_of m) ≡ sort (token_of text place t) → ⊥
other_sort text place m (Mark n) h e = h (ap Mark (sym (same_mark m n e)))
other_sort text place m (Word count) h e = omega (arith, mark_few m)
other_sort text place m Finish h e = omega (arith, mark_few m)
other_sort text place m Stray h e = omega (arith, mark_few m)

-- What is not the end is of another sort.
not_end : (text : List ℕ) (place : ℕ) (t : Token) → (t ≡ Finish → ⊥) → mark_sorts ≡ sort (token_of text place t) → ⊥
not_end text place (Mark m) h e = omega (arith, mark_few m)
not_end text place (Word count) h e = omega arith
not_end text place Finish h e = h refl
not_end text place Stray h e = omega arith

-- A token that is no word.
abbrev pub NoWord : Token → Type 0
NoWord t = (count : ℕ) → t ≡ Word count → ⊥

-- A word of some letters is not one of none.
pub no_same : (w : List ℕ) → 0 < length w → same w [] ≡ false
no_same [] l = absurd (omega arith)
no_same (b ∷ w) l = refl

-- A mark has no letters.
pub mark_letters : (t : paper.Token) → (sort t ≡ 13 → ⊥) → letters t ≡ []
mark_letters paper.slash h = refl
mark_letters paper.slashes h = refl
mark_letters paper.dot h = refl
mark_letters paper.dots h = refl
mark_letters paper.colons h = refl
mark_letters paper.bar h = refl
mark_letters paper.open_square h = refl
mark_letters paper.close_square h = refl
mark_letters paper.open_round h = refl
mark_letters paper.close_round h = refl
mark_letters paper.star h = refl
mark_letters paper.finish h = refl
mark_letters paper.stray h = refl
mark_letters (paper.word w) h = absurd (h refl)

-- What is no word has no letters, and is of another sort.
no_letters : (text : List ℕ) (place : ℕ) (t : Token) → NoWord t → letters (token_of text place t) ≡ []
no_letters text place (Mark m) h = mark_letters (mark_of m) (λ e. omega (arith, mark_few m))
no_letters text place (Word count) h = absurd (h count refl)
no_letters text place Finish h = refl
no_letters text place Stray h = refl

no_word : (text : List ℕ) (place : ℕ) (t : Token) → NoWord t → sort (token_of text place t) ≡ 13 → ⊥
no_word text place (Mark m) h e = omega (arith, mark_few m)
no_word text place (Word count) h e = h count refl
no_word text place Finish h e = omega arith
no_word text place Stray h e = omega arith

-- A mark starts with the byte of its sort.
abbrev Led : ℕ → paper.Token → Type 0
Led b t = sort t < mark_sorts → b ≡ get_or leads (sort t) 0

one_led : (b : ℕ) (test : Bool) (t u : paper.Token) → Led b t → Led b u → Led b (cond test t u)
one_led b true t u p q = p
one_led b false t u p q = q

byte_led : (b k : ℕ) (t u : paper.Token) → (b ≡ k → Led b t) → Led b u → Led b (cond (eqb b k) t u)
byte_led b k t u p q =
    ⊎_elim (λ e. subst (λ x. Led b (cond x t u)) (sym e) (p (eqb-true b k e))) (λ e. subst (λ x. Led b (cond x t u)) (sym e) q) (decide (eqb b k))

led : (b : ℕ) (bs : List ℕ) → Led b (token_at b bs)
unfolding token_at
led b bs =
    one_led b (name_start b) _ _ (λ l. absurd (omega arith))
    (byte_led b 47 _ _ (λ e. one_led b (begins 47 bs) _ _ (λ l. e) (λ l. e))
    (byte_led b 46 _ _ (λ e. one_led b (begins 46 bs) _ _ (λ l. e) (λ l. e))
    (byte_led b 58 _ _ (λ e. one_led b (begins 58 bs) _ _ (λ l. e) (λ l. absurd (omega arith)))
    (byte_led b 124 _ _ (λ e l. e)
    (byte_led b 91 _ _ (λ e l. e)
    (byte_led b 93 _ _ (λ e l. e)
    (byte_led b 40 _ _ (λ e l. e)
    (byte_led b 41 _ _ (λ e l. e)
    (byte_led b 42 _ _ (λ e l. e) (λ l. absurd (omega arith)))))))))))

-- Where another byte stands than a mark starts with, that mark does not come next.
pub other_here : (text : List ℕ) (from b : ℕ) (m : MarkKind) → b ≡ get_or leads (sort (mark_of m)) 0 → OtherByte text from b
    → (sees (mark_of m) (tokens_at text from) ≡ false) × (from ≡ at (tokens_at text from))
unfolding tokens_at
other_here text from b m e o =
    let x = get_or text from 0 in
    let t = token_at x (drop (suc from) text) in
    let wanted = sort (mark_of m) in
    let few = mark_few m in
    let differs : eqb wanted (sort t) ≡ false =
    ne_eqb wanted (sort t) (λ s. false≢true (sym o.other ∙ eq-eqb x b (led x (drop (suc from) text) (omega arith) ∙ ap (λ k. get_or leads k 0) (sym s) ∙ sym e))) in
    rw (drop-cons text from 0 o.inside, o.solid) (differs, refl)

module _ (text : List ℕ) (from : ℕ) (r : Taken) (t : Takes text from r) where
  -- The token that comes next, and its place.
  pub taken_next : next (tokens_at text from) ≡ token_of text r.place r.token
  unfolding tokens_at
  taken_next = ap next t.first

  pub taken_at : r.place ≡ at (tokens_at text from)
  unfolding tokens_at
  taken_at = sym (ap at t.first)

  -- A token that is not the end is passed.
  pub taken_past : finished r.token ≡ false → Past text from r.next.at
  unfolding tokens_at
  taken_past f =
      let ts : tokens_from 0 from (drop from text) ≡ record { place = r.place; token = token_of text r.place r.token } ∷ tokens_from 0 r.next.at (drop r.next.at text) = rw f at t.first in
      record {
        onward = omega (arith, t.least, t.advances f);
        inside = t.within;
        rest = ap (drop 1) ts;
        fewer = ap length ts;
        ends =
            t.past ∙ ap (λ n. r.place + n) (wide text r.place r.token f (omega (arith, t.past, t.advances f)) (omega (arith, t.past, t.within)))
            ∙ ap end_of (sym ts);
      }

  -- Is it this mark?
  pub is_mark : (m : MarkKind) → r.token ≡ Mark m → sees (mark_of m) (tokens_at text from) ≡ true
  is_mark m e = eq-eqb _ _ (sym (ap sort (taken_next ∙ ap (token_of text r.place) e)))

  pub no_mark : (m : MarkKind) → (r.token ≡ Mark m → ⊥) → sees (mark_of m) (tokens_at text from) ≡ false
  no_mark m n = ne_eqb _ _ (λ e. other_sort text r.place m r.token n (e ∙ ap sort taken_next))

  pub mark_past : (m : MarkKind) → r.token ≡ Mark m → Past text from r.next.at
  mark_past m e = taken_past (ap finished e)

  pub looks_there : (m : MarkKind) → r.token ≡ Mark m → Looks text from (sees (mark_of m) (tokens_at text from)) (Ok (record { place = r.place; next = r.next }))
  looks_there m e = (is_mark m e, taken_at, mark_past m e)

  pub looks_other : (m : MarkKind) → (r.token ≡ Mark m → ⊥) → Looks text from (sees (mark_of m) (tokens_at text from)) (Err r.place)
  looks_other m n = (no_mark m n, taken_at)

  -- A word that was taken.
  module _ (len : ℕ) (is : r.token ≡ Word len) where
    pub word_letters : letters (next (tokens_at text from)) ≡ take len (drop r.place text)
    word_letters = ap letters taken_next ∙ ap (λ k. letters (token_of text r.place k)) is

    -- The slice of the text that the word is.
    pub word_slice : letters (next (tokens_at text from)) ≡ take (r.place + len - r.place) (drop r.place text)
    word_slice =
        let e : len ≡ r.place + len - r.place = omega arith in
        word_letters ∙ ap (λ k. take k (drop r.place text)) e

    pub word_past : Past text from r.next.at
    word_past = taken_past (ap finished is)

    pub word_inside : r.place + len ≤ length text
    word_inside = omega (arith, t.within, rw is at t.past)

  -- What is no word.
  pub none_letters : NoWord r.token → letters (next (tokens_at text from)) ≡ []
  none_letters h = ap letters taken_next ∙ no_letters text r.place r.token h

  pub not_word : NoWord r.token → sees (paper.word []) (tokens_at text from) ≡ false
  not_word h = ne_eqb 13 _ (λ e. no_word text r.place r.token h (sym (e ∙ ap sort taken_next)))

  -- The sort of a word, and the end of the text.
  pub word_sort : (len : ℕ) → r.token ≡ Word len → sort (next (tokens_at text from)) ≡ 13
  word_sort len is = ap sort (taken_next ∙ ap (token_of text r.place) is)

  pub is_finish : r.token ≡ Finish → sees paper.finish (tokens_at text from) ≡ true
  is_finish e = eq-eqb _ _ (sym (ap sort (taken_next ∙ ap (token_of text r.place) e)))

  pub no_finish : (r.token ≡ Finish → ⊥) → sees paper.finish (tokens_at text from) ≡ false
  no_finish n = ne_eqb _ _ (λ e. not_end text r.place r.token n (e ∙ ap sort taken_next))
