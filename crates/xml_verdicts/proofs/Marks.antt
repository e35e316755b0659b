-- Where a `<` or an `&` may be read, and what then cannot follow; so no wanted text goes on where a thing opens that is left out.
-- By cases on where reading stands. Assumes nothing.
use Prim.Native.Nat.{ℕ, suc, ◌+◌}
use native.Mathlib.Omega.{arith}
use mathlib.Core.Path.{◌≡◌, refl, sym, ◌∙◌, ap, subst}
use mathlib.Core.Bool.{Bool, true, false, ◌&&◌, ◌||◌, false≢true}
use mathlib.Core.List.{List, [], ◌∷◌, ◌++◌}
use mathlib.Core.Logic.{◌⊎◌, ⊎_elim}
use mathlib.Core.Option.{some}
use lib.Dec.{eqb, leb}
use borrow.Author.Tests.{eqb-true}
use Rattle.paper.specs.Tools.{ascii}
use Rattle.paper.specs.Names.{name_start, name_part}
use Rattle.paper.specs.Xml.{Frame, Mode, start, first, opening, partly, State, step_mode, step}
use Rattle.paper.specs.Xml.{starts, left_out_anywhere}
use Rattle.paper.proofs.Tests.{and_true, or_true, or_left, some_inj, none-some, decide}
use Rattle.xml_grammar.specs.Productions.{PartsIn, name_ends, name_goes_on, NameIn, name-starts}
use Rattle.xml_grammar.proofs.Moves.{state, Runs, onto}
use Rattle.xml_grammar.proofs.Live.{live_no}
use Rattle.xml_grammar.proofs.Reached.{Reached, Open, within, at-start, at_first, in_heading, at_ahead, at_opening, in_name_lem, in_tag_lem, at_emptied}
use Rattle.xml_grammar.proofs.Reached.{at_content, in_run, in_part, in_closing, at_closing, at_ended}
use Rattle.paper.specs.Xml as Xml

-- THE BYTES OF NAMES.

parts_part : {at to : ℕ} {bs name rest : List ℕ} (ws : List ℕ) (x : ℕ) (xs : List ℕ) → PartsIn at bs name to rest → ws ++ (x ∷ xs) ≡ name → name_part x ≡ true
parts_part [] x xs name_ends e = absurd (let z : ◌≡◌ {A = ℕ} 0 1 = cc in omega arith)
parts_part (w ∷ ws) x xs name_ends e = absurd (let z : ◌≡◌ {A = ℕ} 0 1 = cc in omega arith)
parts_part [] x xs (name_goes_on {b = b} h p) e = subst (λ n. name_part n ≡ true) (let f : b ≡ x = cc in f) h
parts_part (w ∷ ws) x xs (name_goes_on {name = name} h p) e = parts_part ws x xs p (let f : ws ++ (x ∷ xs) ≡ name = cc in f)

start_part : (b : ℕ) → name_start b ≡ true → name_part b ≡ true
start_part b h = or_left (eqb b 45) (or_left (eqb b 46) (or_left (leb 48 b && leb b 57) h))

name-part : {at to : ℕ} {bs name rest : List ℕ} (ws : List ℕ) (x : ℕ) (xs : List ℕ) → NameIn at bs name to rest → ws ++ (x ∷ xs) ≡ name → name_part x ≡ true
name-part [] x xs (name-starts {b = b} h p) e = subst (λ n. name_part n ≡ true) (let f : b ≡ x = cc in f) (start_part b h)
name-part (w ∷ ws) x xs (name-starts {name = name} h p) e = parts_part ws x xs p (let f : ws ++ (x ∷ xs) ≡ name = cc in f)

-- In the end tag of an open element a byte must come that is one of a name.
closing_part : {whole bs : List ℕ} {f : Frame} {fs : List Frame} {older : Bool} {r : ℕ} (ws : List ℕ) (x : ℕ) (xs : List ℕ) → Open whole (f ∷ fs) older r bs → ws ++ (x ∷ xs) ≡ f.name → name_part x ≡ true
closing_part ws x xs (within o n m r) e = name-part ws x xs n e

not_this : (c x : ℕ) → name_part c ≡ false → name_part x ≡ true → eqb c x ≡ false
not_this c x n h = ⊎_elim (λ k. absurd (false≢true (sym n ∙ ap name_part (eqb-true c x k) ∙ h))) (λ k. k) (decide (eqb c x))

-- A `<`.

-- Past a `<`: at place 0, or elsewhere.
pub data Tag : Mode → State → Type 0 where
  tag_first : Tag start (state first [])
  tag_later : {m : Mode} {begin : ℕ} {fs : List Frame} → Tag m (state (opening begin) fs)

tag_there : {m : Mode} {s t : State} → some s ≡ some t → Tag m s → Tag m t
tag_there {m = m} e g = subst (Tag m) (some_inj e) g

pub less_read : {whole bs : List ℕ} {m : Mode} {fs : List Frame} {to : ℕ} {t : State} (at : ℕ) → Reached whole m fs to bs → step_mode m at fs 60 ≡ some t → Tag m t
less_read at at-start h = tag_there h tag_first
less_read at at_first h = none-some h
less_read at (in_heading pass live d) h = none-some (rw (live_no live).0 at h)
less_read at (at_ahead o) h = tag_there h tag_later
less_read at (at_opening l o) h = none-some h
less_read at (in_name_lem l o n) h = none-some h
less_read at (in_tag_lem l o n w) h = none-some h
less_read at (at_emptied o n m) h = none-some h
less_read at (at_content o) h = tag_there h tag_later
less_read at (in_run o g r) h = tag_there h tag_later
less_read at (in_part o g w pass live d) h = none-some (rw (live_no live).0 at h)
less_read at (in_closing {ws = ws} {xs = xs} {x = x} o y e) h = let k = not_this 60 x refl (closing_part ws x xs o e) in none-some (rw k at h)
less_read at (at_closing o y m) h = none-some h
less_read at (at_ended o r m) h = none-some h

-- An `&`: a reference of a run follows.
pub data Referring : State → Type 0 where
  referring : {begin : ℕ} {fs : List Frame} → Referring (state (partly begin Xml.reference) fs)

pub amp_read : {whole bs : List ℕ} {m : Mode} {fs : List Frame} {to : ℕ} {t : State} (at : ℕ) → Reached whole m fs to bs → step_mode m at fs 38 ≡ some t → Referring t
amp_read at at-start h = none-some h
amp_read at at_first h = none-some h
amp_read at (in_heading pass live d) h = none-some (rw (live_no live).1 at h)
amp_read at (at_ahead o) h = none-some h
amp_read at (at_opening l o) h = none-some h
amp_read at (in_name_lem l o n) h = none-some h
amp_read at (in_tag_lem l o n w) h = none-some h
amp_read at (at_emptied o n m) h = none-some h
amp_read at (at_content o) h = subst Referring (some_inj h) referring
amp_read at (in_run o g r) h = subst Referring (some_inj h) referring
amp_read at (in_part o g w pass live d) h = none-some (rw (live_no live).1 at h)
amp_read at (in_closing {ws = ws} {xs = xs} {x = x} o y e) h = let k = not_this 38 x refl (closing_part ws x xs o e) in none-some (rw k at h)
amp_read at (at_closing o y m) h = none-some h
amp_read at (at_ended o r m) h = none-some h

-- NOTHING GOES ON.

-- The bytes begin with these two.
pub starts-two {ℓ} : {C : Type ℓ} (x y : ℕ) (bs : List ℕ) → starts (x ∷ y ∷ []) bs ≡ true → ((rest : List ℕ) → bs ≡ x ∷ y ∷ rest → C) → C
starts-two x y [] h k = absurd (false≢true h)
starts-two x y (b ∷ []) h k = absurd (false≢true (and_true (eqb b x) false h).1)
starts-two x y (b ∷ c ∷ rest) h k =
    let (u, v) = and_true (eqb b x) (eqb c y && true) h in
    let (w, z) = and_true (eqb c y) true v in
    k rest (let e = eqb-true b x u in let f = eqb-true c y w in cc)

module _ {whole left : List ℕ} {m : Mode} {fs : List Frame} {to : ℕ} (r : Reached whole m fs to left) where
  no_markup : {at : ℕ} {rest : List ℕ} {u : State} → Runs at (state m fs) (60 ∷ 33 ∷ rest) u → ⊥
  no_markup (onto {at = n} h (onto k q)) = go n (less_read n r h) k
    where
      go : {m : Mode} {t v : State} (n : ℕ) → Tag m t → step (suc n) t 33 ≡ some v → ⊥
      go n tag_first k = none-some k
      go n tag_later k = none-some k

  no_instruction : {at : ℕ} {rest : List ℕ} {u : State} → (m ≡ start → ⊥) → Runs at (state m fs) (60 ∷ 63 ∷ rest) u → ⊥
  no_instruction l (onto {at = n} h (onto k q)) = go n (less_read n r h) l k
    where
      go : {m : Mode} {t v : State} (n : ℕ) → Tag m t → (m ≡ start → ⊥) → step (suc n) t 63 ≡ some v → ⊥
      go n tag_first l k = l refl
      go n tag_later l k = none-some k

  no_character : {at : ℕ} {rest : List ℕ} {u : State} → Runs at (state m fs) (38 ∷ 35 ∷ rest) u → ⊥
  no_character (onto {at = n} h (onto k q)) = go n (amp_read n r h) k
    where
      go : {t v : State} (n : ℕ) → Referring t → step (suc n) t 35 ≡ some v → ⊥
      go n referring k = none-some k

  pub not_anywhere : {at : ℕ} {bs : List ℕ} {u : State} → (m ≡ start → ⊥) → left_out_anywhere bs ≡ true → Runs at (state m fs) bs u → ⊥
  not_anywhere {at = at} {bs} {u} n h q =
      ⊎_elim
      (λ k.
      ⊎_elim (λ j. starts-two 60 33 bs j (λ rest e. no_markup (subst (λ l. Runs at (state m fs) l u) e q)))
      (λ j. starts-two 38 35 bs j (λ rest e. no_character (subst (λ l. Runs at (state m fs) l u) e q))) (or_true (starts (ascii "<!") bs) (starts (ascii "&#") bs) k))
      (λ k. starts-two 60 63 bs k (λ rest e. no_instruction n (subst (λ l. Runs at (state m fs) l u) e q)))
      (or_true (starts (ascii "<!") bs || starts (ascii "&#") bs) (starts (ascii "<?") bs) h)
