-- Counting the `]` at the end of a run tells where `]]>` stands in a row of characters.
-- By induction over the row, with none, one or two `]` in front of it. Assumes nothing.
use Prim.Native.Nat.{ℕ}
use mathlib.Core.Path.{◌≡◌, refl, sym, ◌∙◌, ap, subst}
use mathlib.Core.Bool.{Bool, true, false, not, ◌&&◌, ◌||◌, cond, false≢true}
use mathlib.Core.List.{List, [], ◌∷◌}
use mathlib.Core.Logic.{◌⊎◌, ⊎_elim}
use lib.Dec.{eqb}
use borrow.Author.Tests.{eqb-true}
use Rattle.paper.specs.Xml.{squares}
use Rattle.paper.proofs.Tests.{decide}
use Rattle.xml_grammar.specs.Productions.{Atom, char, reference, is_the, marks_end}

-- How many `]` stand at the end after one atom more, 2 at most.
abbrev pub more : ℕ → Atom → ℕ
more k x = cond (is_the 93 x) (squares k) 0

-- May the atoms follow k of them?
abbrev pub fine : ℕ → List Atom → Bool
fine k [] = true
fine k (x ∷ xs) = not (is_the 62 x && eqb k 2) && fine (more k x) xs

-- How many there are in the end.
abbrev pub counted : ℕ → List Atom → ℕ
counted k [] = k
counted k (x ∷ xs) = counted (more k x) xs

the_char : (c : ℕ) (x : Atom) → is_the c x ≡ true → x ≡ char c
the_char c (char d) h = ap char (eqb-true d c h)
the_char c reference h = absurd (false≢true h)

-- An atom that is no `]` starts the count anew.
passed : (x : Atom) (xs : List Atom) → is_the 93 x ≡ false → marks_end (x ∷ xs) ≡ marks_end xs
passed x [] h = refl
passed x (y ∷ []) h = refl
passed x (y ∷ z ∷ zs) h = rw h

dropped : (a b rest : Bool) → (a && false && b || rest) ≡ rest
dropped true b rest = refl
dropped false b rest = refl

passed_two : (w x : Atom) (xs : List Atom) → is_the 93 x ≡ false → marks_end (w ∷ x ∷ xs) ≡ marks_end xs
passed_two w x [] h = refl
passed_two w x (y ∷ ys) h = rw (h, dropped) (passed x (y ∷ ys) h)

-- With none, one and two in front.
counts : (xs : List Atom) → (marks_end xs ≡ not (fine 0 xs)) × (marks_end (char 93 ∷ xs) ≡ not (fine 1 xs)) × (marks_end (char 93 ∷ char 93 ∷ xs) ≡ not (fine 2 xs))
counts [] = (refl, refl, refl)
counts (x ∷ xs) =
    let (none, single, double) = counts xs in
    ⊎_elim
    (λ (h : is_the 93 x ≡ true).
    let e = the_char 93 x h in
    subst (λ y. (marks_end (y ∷ xs) ≡ not (fine 0 (y ∷ xs))) × (marks_end (char 93 ∷ y ∷ xs) ≡ not (fine 1 (y ∷ xs))) × (marks_end (char 93 ∷ char 93 ∷ y ∷ xs) ≡ not (fine 2 (y ∷ xs)))) (sym e)
    (single, double, double))
    (λ (h : is_the 93 x ≡ false).
    let plain : marks_end (x ∷ xs) ≡ not (fine 0 xs) = passed x xs h ∙ none in
    let two : marks_end (char 93 ∷ x ∷ xs) ≡ not (fine 0 xs) = passed_two (char 93) x xs h ∙ none in
    (rw h (go (is_the 62 x) plain), rw h (go (is_the 62 x) two), rw h (ends (is_the 62 x) two)))
    (decide (is_the 93 x))
  where
    go : (b : Bool) {m : Bool} → m ≡ not (fine 0 xs) → m ≡ not (not (b && false) && fine 0 xs)
    go true e = e
    go false e = e

    ends : (b : Bool) {m : Bool} → m ≡ not (fine 0 xs) → (b || m) ≡ not (not (b && true) && fine 0 xs)
    ends true e = refl
    ends false e = e

pub fine_marks : (xs : List Atom) → fine 0 xs ≡ true → marks_end xs ≡ false
fine_marks xs h = (counts xs).0 ∙ ap not h

pub marks_fine : (xs : List Atom) → marks_end xs ≡ false → fine 0 xs ≡ true
marks_fine xs h = go (fine 0 xs) (sym (counts xs).0 ∙ h)
  where
    go : (b : Bool) → not b ≡ false → b ≡ true
    go true e = refl
    go false e = absurd (false≢true (sym e))
