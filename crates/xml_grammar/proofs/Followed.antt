-- Reading goes over a text that is derived, to its end.
-- By induction over the derivation; a row is gone over up to the `<` behind it, so that a run of characters is ended. Assumes nothing.
use Prim.Native.Nat.{ℕ, suc, ◌+◌, ◌<◌, ◌≤◌}
use native.Mathlib.Omega.{arith}
use mathlib.Core.Path.{◌≡◌, refl, sym, ◌∙◌, ap, subst}
use mathlib.Core.Bool.{Bool, true, false, not, ◌&&◌, ◌||◌, false≢true}
use mathlib.Core.List.{List, [], ◌∷◌, ◌++◌, append_assoc, append-nil}
use mathlib.Core.Logic.{◌⊎◌, ⊎_elim}
use mathlib.Core.Option.{some}
use lib.Dec.{eqb, ltb}
use borrow.Author.Tests.{eqb-true, eq-eqb, ne_eqb, ltb-true, ltb-false, not-true}
use Rattle.paper.specs.Names.{name_start, name_part}
use Rattle.paper.specs.Tokens.{white}
use Rattle.paper.specs.Xml.{Nodes, nothing, element, chars, beside, from, plain, Pattern, after, wide}
use Rattle.paper.specs.Xml.{Frame, start, first, ahead, opening, in_name, in_tag, emptied, content, run, partly, closing, ended, State, with}
use Rattle.paper.specs.Xml.{goes_on, char_goes_on, step}
use Rattle.paper.proofs.Tests.{and_true, or_true, or_left, or_right, none-some, decide}
use Rattle.xml_grammar.specs.Productions.{SayIn, said, saying, ManyIn, no_more, one_more, PartsIn, name_ends, name_goes_on, NameIn, name-starts}
use Rattle.xml_grammar.specs.Productions.{is_char, utf8, Atom, char, AtomIn, a_char, lt_ref, gt_ref, amp_ref, apos_ref, quot_ref, AtomsIn, no_atom, one_atom}
use Rattle.xml_grammar.specs.Productions.{is_the, RunIn, a_run, RowIn, row_ends, run_first, empty_first, full_first, DeclarationIn, declared, not_declared, Derives, text}
use Rattle.xml_grammar.proofs.Moves.{state, Runs, Goes, stays, goes, goes_then, goes_runs}
use Rattle.xml_grammar.proofs.Live.{Finishes, last, further}
use Rattle.xml_grammar.proofs.Wide.{wide_finishes, under_wide, from_in, from_low, from_over}
use Rattle.xml_grammar.proofs.Squares.{more, fine, counted, marks_fine}
use Rattle.xml_grammar.proofs.Heading.{declaration_goes}
use Rattle.paper.specs.Xml as Xml
use Rattle.paper.specs.Tools.{ascii}
use Rattle.xml_grammar.proofs.Reached.{frame, beside_assoc, beside_nothing}

-- Bytes of a set that leave reading where it stands.
pub many_goes : {set : ℕ → Bool} {at to : ℕ} {bs rest : List ℕ} (s : State) → ((n b : ℕ) → set b ≡ true → step n s b ≡ some s) → ManyIn set at bs to rest → Goes at s bs to s rest
many_goes s loop no_more = stays
many_goes s loop (one_more {b = b} {at = at} h m) = goes (loop at b h) (many_goes s loop m)

-- ATOMS.

-- The bytes that finish a character or a reference.
pub finish_goes : {p : Pattern} {ws bs rest : List ℕ} {begin at to : ℕ} {fs : List Frame} (s : State) → ((b : ℕ) (q : Pattern) → after p b ≡ some q → step at s b ≡ goes_on begin fs (some q)) → Finishes p ws
    → SayIn ws at bs to rest → Goes at s bs to (state (run begin 0) fs) rest
finish_goes {begin = begin} {fs = fs} s f (last {q = q} {b = b} h d) (saying said) = goes (f b q h ∙ ended_there) stays
  where
    ended_there : goes_on begin fs (some q) ≡ some (state (run begin 0) fs)
    ended_there = rw d
finish_goes {begin = begin} {fs = fs} s f (further {q = q} {b = b} h d k) (saying y) =
    goes (f b q h ∙ partly_there) (finish_goes (state (partly begin q) fs) (λ c r e. ap (goes_on begin fs) e) k y)
  where
    partly_there : goes_on begin fs (some q) ≡ some (state (partly begin q) fs)
    partly_there = rw d

-- The five references, behind the `&`.
lt_finishes : Finishes Xml.reference (ascii "lt;")
lt_finishes = further refl refl (further refl refl (last refl refl))

gt_finishes : Finishes Xml.reference (ascii "gt;")
gt_finishes = further refl refl (further refl refl (last refl refl))

amp_finishes : Finishes Xml.reference (ascii "amp;")
amp_finishes = further refl refl (further refl refl (further refl refl (last refl refl)))

apos_finishes : Finishes Xml.reference (ascii "apos;")
apos_finishes = further refl refl (further refl refl (further refl refl (further refl refl (last refl refl))))

quot_finishes : Finishes Xml.reference (ascii "quot;")
quot_finishes = further refl refl (further refl refl (further refl refl (further refl refl (last refl refl))))

-- Of one byte: it is plain.
is_plain : (c : ℕ) → is_char c ≡ true → c < 128 → plain c ≡ true
is_plain c h l =
    ⊎_elim
    (λ a.
    ⊎_elim
    (λ b.
    ⊎_elim
    (λ d. ⊎_elim (λ e. ⊎_elim (λ f. nine f) (λ f. ten f) (or_true (eqb c 9) (eqb c 10) e)) (λ e. or_right (from 32 127 c || eqb c 9 || eqb c 10) e) (or_true (eqb c 9 || eqb c 10) (eqb c 13) d))
    (λ d. let u = from_low 32 55295 c d in let k : from 32 127 c ≡ true = from_in 32 127 c u (omega arith) in or_left (eqb c 13) (or_left (eqb c 10) (or_left (eqb c 9) k)))
    (or_true (eqb c 9 || eqb c 10 || eqb c 13) (from 32 55295 c) b))
    (λ b. absurd (let u = from_low 57344 65533 c b in omega arith)) (or_true (eqb c 9 || eqb c 10 || eqb c 13 || from 32 55295 c) (from 57344 65533 c) a))
    (λ a. absurd (let u = from_low 65536 1114111 c a in omega arith))
    (or_true (eqb c 9 || eqb c 10 || eqb c 13 || from 32 55295 c || from 57344 65533 c) (from 65536 1114111 c) h)
  where
    nine : eqb c 9 ≡ true → plain c ≡ true
    nine k = or_left (eqb c 13) (or_left (eqb c 10) (or_right (from 32 127 c) k))

    ten : eqb c 10 ≡ true → plain c ≡ true
    ten k = or_left (eqb c 13) (or_right (from 32 127 c || eqb c 9) k)

-- Of several: the first is none of those.
not_plain : (b : ℕ) → 194 ≤ b → plain b ≡ false
not_plain b h = rw (from_over 32 127 b (omega arith), ne_eqb b 9 (λ e. omega arith), ne_eqb b 10 (λ e. omega arith), ne_eqb b 13 (λ e. omega arith))

module _ (f : Frame) (fs : List Frame) (begin k : ℕ) where
  -- A place from which a character of the run may come.
  abbrev Takes : ℕ → State → Type 0
  Takes at s = (b : ℕ) → eqb b 60 ≡ false → step at s b ≡ char_goes_on begin k (f ∷ fs) b

  plain_goes : {at : ℕ} {bs : List ℕ} (s : State) (c : ℕ) → Takes at s → is_char c ≡ true → eqb c 60 ≡ false → eqb c 38 ≡ false → c < 128 → (eqb c 62 && eqb k 2) ≡ false
      → Goes at s (c ∷ bs) (suc at) (state (run begin (more k (char c))) (f ∷ fs)) bs
  plain_goes {at} s c t i n m l o = goes (t c n ∙ go (eqb c 93) refl) stays
    where
      go : (x : Bool) → eqb c 93 ≡ x → char_goes_on begin k (f ∷ fs) c ≡ some (state (run begin (more k (char c))) (f ∷ fs))
      go true e = rw (m, e)
      go false e = let p = is_plain c i l in rw (m, e, o, p)

  wide_goes : {at to : ℕ} {bs rest : List ℕ} (s : State) (c : ℕ) → Takes at s → is_char c ≡ true → 128 ≤ c → SayIn (utf8 c) at bs to rest → Goes at s bs to (state (run begin 0) (f ∷ fs)) rest
  wide_goes {at} s c t i l y = finish_goes s taken (wide_finishes c i l) y
    where
      taken : (b : ℕ) (q : Pattern) → after wide b ≡ some q → step at s b ≡ goes_on begin (f ∷ fs) (some q)
      taken b q h =
          ⊎_elim (λ u. none-some (sym (under_wide b (ltb-true b 194 u)) ∙ h))
          (λ u.
          let v = ltb-false b 194 u in
          let p = not_plain b v in
          let x1 : eqb b 60 ≡ false = ne_eqb b 60 (λ e. omega arith) in
          let x2 : eqb b 38 ≡ false = ne_eqb b 38 (λ e. omega arith) in
          let x3 : eqb b 93 ≡ false = ne_eqb b 93 (λ e. omega arith) in
          let x4 : eqb b 62 ≡ false = ne_eqb b 62 (λ e. omega arith) in
          t b x1 ∙ rw (x2, x3, x4, p, h))
          (decide (ltb b 194))

  reference_goes : {at to : ℕ} {ws bs rest : List ℕ} → Finishes Xml.reference ws → SayIn ws at bs to rest → Goes at (state (partly begin Xml.reference) (f ∷ fs)) bs to (state (run begin 0) (f ∷ fs)) rest
  reference_goes k y = finish_goes (state (partly begin Xml.reference) (f ∷ fs)) (λ b q e. ap (goes_on begin (f ∷ fs)) e) k y

  atom_goes : {at to : ℕ} {bs rest : List ℕ} {x : Atom} (s : State) → Takes at s → AtomIn at bs x to rest → (is_the 62 x && eqb k 2) ≡ false
      → Goes at s bs to (state (run begin (more k x)) (f ∷ fs)) rest
  atom_goes {at = at} {to} {bs} {rest} s t (a_char {c = c} i n m y) o =
      ⊎_elim
      (λ u.
      let l = ltb-true c 128 u in
      let e : utf8 c ≡ c ∷ [] = rw u in
      one_byte (subst (λ w. SayIn w at bs to rest) e y) l t)
      (λ u.
      let l = ltb-false c 128 u in
      let x3 : eqb c 93 ≡ false = ne_eqb c 93 (λ e. omega arith) in
      let zero_left : 0 ≡ more k (char c) = rw x3 in
      subst (λ j. Goes at s bs to (state (run begin j) (f ∷ fs)) rest) zero_left (wide_goes s c t i l y))
      (decide (ltb c 128))
    where
      one_byte : {at to : ℕ} {bs rest : List ℕ} → SayIn (c ∷ []) at bs to rest → c < 128 → Takes at s → Goes at s bs to (state (run begin (more k (char c))) (f ∷ fs)) rest
      one_byte (saying said) l t = plain_goes s c t i n m l o
  atom_goes s t (lt_ref (saying y)) o = goes (t 38 refl) (reference_goes lt_finishes y)
  atom_goes s t (gt_ref (saying y)) o = goes (t 38 refl) (reference_goes gt_finishes y)
  atom_goes s t (amp_ref (saying y)) o = goes (t 38 refl) (reference_goes amp_finishes y)
  atom_goes s t (apos_ref (saying y)) o = goes (t 38 refl) (reference_goes apos_finishes y)
  atom_goes s t (quot_ref (saying y)) o = goes (t 38 refl) (reference_goes quot_finishes y)

run_takes : (f : Frame) (fs : List Frame) (begin k at : ℕ) → Takes f fs begin k at (state (run begin k) (f ∷ fs))
run_takes f fs begin k at b n = rw n

atoms_goes : {at to : ℕ} {bs rest : List ℕ} {xs : List Atom} (f : Frame) (fs : List Frame) (begin k : ℕ) → AtomsIn at bs xs to rest → fine k xs ≡ true
    → Goes at (state (run begin k) (f ∷ fs)) bs to (state (run begin (counted k xs)) (f ∷ fs)) rest
atoms_goes f fs begin k no_atom h = stays
atoms_goes {at = at} f fs begin k (one_atom {x = x} {xs = xs} a r) h =
    let (u, v) = and_true (not (is_the 62 x && eqb k 2)) (fine (more k x) xs) h in
    goes_then (atom_goes f fs begin k (state (run begin k) (f ∷ fs)) (run_takes f fs begin k at) a (not-true (is_the 62 x && eqb k 2) u)) (atoms_goes f fs begin (more k x) r v)

-- A run, from where none is under way.
run-goes {ℓ} : {C : Type ℓ} {at to : ℕ} {bs rest : List ℕ} (f : Frame) (fs : List Frame) → RunIn at bs to rest
    → ((k : ℕ) → Goes at (state content (f ∷ fs)) bs to (state (run at k) (f ∷ fs)) rest → C) → C
run-goes {at = at} f fs (a_run {x = x} {xs = xs} (one_atom a r) m) k =
    let h = marks_fine (x ∷ xs) m in
    let (u, v) = and_true (not (is_the 62 x && false)) (fine (more 0 x) xs) h in
    k (counted (more 0 x) xs) (goes_then (atom_goes f fs at 0 (state content (f ∷ fs)) (λ b n. rw n) a (not-true (is_the 62 x && false) u)) (atoms_goes f fs at (more 0 x) r v))

-- TAGS.

-- White space is one of four bytes, none of them in a name.
pub whites {ℓ} : (P : ℕ → Type ℓ) (b : ℕ) → white b ≡ true → P 32 → P 9 → P 10 → P 13 → P b
whites P b h w x y z =
    ⊎_elim
    (λ k. ⊎_elim (λ k. ⊎_elim (λ k. subst P (sym (eqb-true b 32 k)) w) (λ k. subst P (sym (eqb-true b 9 k)) x) (or_true (eqb b 32) (eqb b 9) k)) (λ k. subst P (sym (eqb-true b 10 k)) y) (or_true (eqb b 32 || eqb b 9) (eqb b 10) k))
    (λ k. subst P (sym (eqb-true b 13 k)) z) (or_true (eqb b 32 || eqb b 9 || eqb b 10) (eqb b 13) h)

pub white_no_part : (b : ℕ) → white b ≡ true → name_part b ≡ false
white_no_part b h = whites (λ x. name_part x ≡ false) b h refl refl refl refl

parts_goes : {at to begin : ℕ} {bs rest front name : List ℕ} {fs : List Frame} → PartsIn at bs name to rest
    → Goes at (state (in_name begin front) fs) bs to (state (in_name begin (front ++ name)) fs) rest
parts_goes {begin = begin} {front = front} {fs = fs} (name_ends {at = at} {bs = bs}) =
    subst (λ n. Goes at (state (in_name begin front) fs) bs at (state (in_name begin n) fs) bs) (sym (append-nil front)) stays
parts_goes {to = to} {begin = begin} {rest = rest} {front = front} {fs = fs} (name_goes_on {b = b} {at = at} {bs = bs} {name = name} h p) =
    goes (part_there h)
    (subst (λ n. Goes (suc at) (state (in_name begin (front ++ (b ∷ []))) fs) bs to (state (in_name begin n) fs) rest) (append_assoc front (b ∷ []) name) (parts_goes p))
  where
    part_there : name_part b ≡ true → step at (state (in_name begin front) fs) b ≡ some (state (in_name begin (front ++ (b ∷ []))) fs)
    part_there h = rw h

-- Reading stands where a name of a start tag may begin.
abbrev pub Enters : ℕ → List Frame → State → Type 0
Enters begin fs s = (n b : ℕ) → name_start b ≡ true → step n s b ≡ some (state (in_name begin (b ∷ [])) fs)

-- Reading stands in a start tag, behind its name.
pub data Tagged (begin : ℕ) (name : List ℕ) (fs : List Frame) : State → Type 0 where
  named : Tagged begin name fs (state (in_name begin name) fs)
  spaced : Tagged begin name fs (state (in_tag begin name) fs)

tag-goes {ℓ} : {C : Type ℓ} {begin p q : ℕ} {bs cs ds name : List ℕ} {fs : List Frame} (s : State) → Enters begin fs s → NameIn (suc begin) bs name p cs → ManyIn white p cs q ds
    → ((t : State) → Tagged begin name fs t → Goes (suc begin) s bs q t ds → C) → C
tag-goes {begin = begin} {fs = fs} s e (name-starts {b = b} h n) no_more k = k _ named (goes (e (suc begin) b h) (parts_goes n))
tag-goes {begin = begin} {name = name} {fs = fs} s e (name-starts {b = b} h n) (one_more {b = c} {at = p} i m) k =
    k _ spaced
    (goes (e (suc begin) b h)
    (goes_then (parts_goes n) (goes (white_there i) (many_goes (state (in_tag begin name) fs) (λ n x j. more_white x j) m))))
  where
    white_there : white c ≡ true → step p (state (in_name begin name) fs) c ≡ some (state (in_tag begin name) fs)
    white_there i = rw (white_no_part c i, i)

    more_white : (x : ℕ) → white x ≡ true → step p (state (in_tag begin name) fs) x ≡ some (state (in_tag begin name) fs)
    more_white x j = rw j

tag_empties : {begin : ℕ} {name : List ℕ} {fs : List Frame} {t : State} (n : ℕ) → Tagged begin name fs t → step n t 47 ≡ some (state (emptied begin name) fs)
tag_empties n named = refl
tag_empties n spaced = refl

tag_opens : {begin : ℕ} {name : List ℕ} {fs : List Frame} {t : State} (n : ℕ) → Tagged begin name fs t → step n t 62 ≡ some (state content (frame name begin nothing ∷ fs))
tag_opens n named = refl
tag_opens n spaced = refl

-- The name of an end tag.
pub name_closes : {ws bs rest : List ℕ} {at to : ℕ} {fs : List Frame} → SayIn ws at bs to rest → Goes at (state (closing ws) fs) bs to (state (closing []) fs) rest
name_closes said = stays
name_closes {fs = fs} (saying {b = b} {at = at} {ws = ws} s) = goes here (name_closes s)
  where
    here : step at (state (closing (b ∷ ws)) fs) b ≡ some (state (closing ws) fs)
    here = let same : eqb b b ≡ true = eq-eqb b b refl in rw same

pub end_goes : {p q : ℕ} {es gs hs : List ℕ} {r : ℕ} {f : Frame} {fs : List Frame} → SayIn f.name (suc (suc r)) es p gs → ManyIn white p gs q hs
    → Goes (suc r) (state (opening r) (f ∷ fs)) (47 ∷ es) q (state (closing []) (f ∷ fs)) hs
end_goes {f = f} {fs = fs} s m = goes refl (goes_then (name_closes s) (many_goes (state (closing []) (f ∷ fs)) white_stays m))
  where
    white_stays : (n b : ℕ) → white b ≡ true → step n (state (closing []) (f ∷ fs)) b ≡ some (state (closing []) (f ∷ fs))
    white_stays n b h = rw h

-- ROWS.

with_nothing : (f : Frame) → f ≡ with f nothing
with_nothing f = ap (frame f.name f.begin) (sym (beside_nothing f.inside))

with_with : (f : Frame) (a b : Nodes) → with (with f a) b ≡ with f (beside a b)
with_with f a b = ap (frame f.name f.begin) (beside_assoc f.inside a b)

opening_enters : (begin : ℕ) (fs : List Frame) → Enters begin fs (state (opening begin) fs)
opening_enters begin fs n b h = rw h

-- Up to the `<` behind it.
row_goes : {fresh : Bool} {at to : ℕ} {bs rest : List ℕ} {row : Nodes} → RowIn fresh at bs row to (60 ∷ rest) → (f : Frame) (fs : List Frame) (s : State) → step at s 60 ≡ some (state (opening at) (f ∷ fs))
    → (fresh ≡ true → s ≡ state content (f ∷ fs)) → Goes at s bs (suc to) (state (opening to) (with f row ∷ fs)) rest
row_goes {rest = rest} (row_ends {at = at}) f fs s h k = goes h (subst (λ g. Goes (suc at) (state (opening at) (f ∷ fs)) rest (suc at) (state (opening at) (g ∷ fs)) rest) (with_nothing f) stays)
row_goes {at = at} {to = to} {bs = bs} {rest = rest} (run_first {mid = mid} {cs = cs} {more = more} u r) f fs s h k =
    subst (λ z. Goes at z bs (suc to) (state (opening to) (with f (chars at mid more) ∷ fs)) rest) (sym (k refl))
    (run-goes f fs u
    (λ j g.
    goes_then g
    (subst (λ w. Goes mid (state (run at j) (f ∷ fs)) cs (suc to) (state (opening to) (w ∷ fs)) rest) (with_with f (chars at mid nothing) more)
    (row_goes r (with f (chars at mid nothing)) fs (state (run at j) (f ∷ fs)) refl (λ e. absurd (false≢true e))))))
row_goes {at = at} {to = to} {rest = rest} (empty_first {q = q} {ds = ds} {name = name} {more = more} n m r) f fs s h k =
    goes h
    (tag-goes (state (opening at) (f ∷ fs)) (opening_enters at (f ∷ fs)) n m
    (λ t g w.
    goes_then w
    (goes (tag_empties q g)
    (goes refl
    (subst (λ w. Goes (suc (suc q)) (state content (with f (element name at (suc (suc q)) nothing nothing) ∷ fs)) ds (suc to) (state (opening to) (w ∷ fs)) rest)
    (with_with f (element name at (suc (suc q)) nothing nothing) more)
    (row_goes r (with f (element name at (suc (suc q)) nothing nothing)) fs (state content (with f (element name at (suc (suc q)) nothing nothing) ∷ fs)) refl (λ e. refl)))))))
row_goes {at = at} {to = to} {rest = rest} (full_first {q = q} {r = u} {t = v} {gs = gs} {name = name} {inside = inside} {more = more} n m i y j r) f fs s h k =
    goes h
    (tag-goes (state (opening at) (f ∷ fs)) (opening_enters at (f ∷ fs)) n m
    (λ t g w.
    goes_then w
    (goes (tag_opens q g)
    (goes_then (row_goes i (frame name at nothing) (f ∷ fs) (state content (frame name at nothing ∷ f ∷ fs)) refl (λ e. refl))
    (goes_then (end_goes y j)
    (goes refl
    (subst (λ w. Goes (suc v) (state content (with f (element name at (suc v) inside nothing) ∷ fs)) gs (suc to) (state (opening to) (w ∷ fs)) rest)
    (with_with f (element name at (suc v) inside nothing) more)
    (row_goes r (with f (element name at (suc v) inside nothing)) fs (state content (with f (element name at (suc v) inside nothing) ∷ fs)) refl (λ e. refl)))))))))

-- THE TEXT.

-- Reading stands before the one element.
data Ready : ℕ → State → Type 0 where
  ready_start : Ready 0 (state start [])
  ready_ahead : {at : ℕ} → Ready at (state ahead [])

pub no_question : (b : ℕ) → name_start b ≡ true → eqb b 63 ≡ false
no_question b h = ⊎_elim (λ k. absurd (false≢true (subst (λ x. name_start x ≡ true) (eqb-true b 63 k) h))) (λ k. k) (decide (eqb b 63))

ready-enters {ℓ} : {C : Type ℓ} {at : ℕ} {s : State} → Ready at s → ((t : State) → step at s 60 ≡ some t → Enters at [] t → C) → C
ready-enters ready_start k = k (state first []) refl (λ n b h. rw (no_question b h, h))
ready-enters {at = at} ready_ahead k = k (state (opening at) []) refl (opening_enters at [])

ahead_white : (n b : ℕ) → white b ≡ true → step n (state ahead []) b ≡ some (state ahead [])
ahead_white n b h = rw h

ready {ℓ} : {C : Type ℓ} {p q : ℕ} {whole cs ds : List ℕ} → DeclarationIn whole p cs → ManyIn white p cs q ds → ((s : State) → Ready q s → Goes 0 (state start []) whole q s ds → C) → C
ready (declared x v e a m y) w k = k (state ahead []) ready_ahead (goes_then (declaration_goes x v e a m y) (many_goes (state ahead []) ahead_white w))
ready not_declared no_more k = k (state start []) ready_start stays
ready not_declared (one_more {b = b} h m) k = k (state ahead []) ready_ahead (goes (white_first h) (many_goes (state ahead []) ahead_white m))
  where
    white_first : white b ≡ true → step 0 (state start []) b ≡ some (state ahead [])
    white_first h = rw h

root_goes : {at past to begin : ℕ} {bs rest name : List ℕ} {inside : Nodes} (s : State) → Ready at s → RowIn false at bs (element name begin past inside nothing) to rest
    → Goes at s bs to (state (ended (element name begin past inside nothing)) []) rest
root_goes s y (empty_first {q = q} n m row_ends) =
    ready-enters y (λ t h e. goes h (tag-goes t e n m (λ u g w. goes_then w (goes (tag_empties q g) (goes refl stays)))))
root_goes s y (full_first {at = at} {q = q} {name = name} n m i z j row_ends) =
    ready-enters y
    (λ t h e.
    goes h
    (tag-goes t e n m
    (λ u g w.
    goes_then w
    (goes (tag_opens q g)
    (goes_then (row_goes i (frame name at nothing) [] (state content (frame name at nothing ∷ [])) refl (λ e. refl)) (goes_then (end_goes z j) (goes refl stays)))))))

pub followed : {whole : List ℕ} {tree : Nodes} → Derives whole tree → Runs 0 (state start []) whole (state (ended tree) [])
followed {tree = tree} (text d m r e) =
    ready d m (λ s y g. goes_runs (goes_then g (goes_then (root_goes s y r) (many_goes (state (ended tree) []) white_ends e))))
  where
    white_ends : (n b : ℕ) → white b ≡ true → step n (state (ended tree) []) b ≡ some (state (ended tree) [])
    white_ends n b h = rw h
