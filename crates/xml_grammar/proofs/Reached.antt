-- What the bytes read so far are, for each place where reading may stand: the productions up to there, with the elements that are open.
-- One byte more is one more step of a production; by cases on where reading stands. Assumes nothing.
use Prim.Native.Nat.{ℕ, suc, ◌+◌, ◌<◌, ◌≤◌}
use native.Mathlib.Omega.{arith}
use mathlib.Core.Path.{◌≡◌, refl, sym, ◌∙◌, ap, subst}
use mathlib.Core.Bool.{Bool, true, false, ◌&&◌, ◌||◌, false≢true}
use mathlib.Core.List.{List, [], ◌∷◌, ◌++◌, append_assoc}
use mathlib.Core.Logic.{◌⊎◌, ⊎_elim}
use mathlib.Core.Option.{Option, none, some}
use lib.Dec.{eqb}
use borrow.Author.Tests.{eqb-true, ne_eqb, lt-ltb}
use Rattle.paper.specs.Tools.{ascii}
use Rattle.paper.specs.Names.{name_start, name_part}
use Rattle.paper.specs.Tokens.{white}
use Rattle.paper.specs.Xml.{Nodes, nothing, element, chars, beside, from, plain, Pattern, done, one, many, fork, encoding, after, is_done, say, declaration, wide}
use Rattle.paper.specs.Xml.{Frame, Mode, start, first, heading, ahead, opening, in_name, in_tag, emptied, content, run, partly, closing, ended, State, stands}
use Rattle.paper.specs.Xml.{add, close, run_ends, name_or_slash, tag_goes_on, goes_on, char_goes_on, heading_goes_on, step_mode}
use Rattle.paper.proofs.Tests.{or_true, some_inj, none-some}
use Rattle.xml_grammar.specs.Productions.{SayIn, said, saying, ManyIn, no_more, one_more, SomeIn, at_least, PartsIn, name_ends, name_goes_on, NameIn, name-starts}
use Rattle.xml_grammar.specs.Productions.{is_char, utf8, Atom, char, AtomIn, a_char, lt_ref, gt_ref, amp_ref, apos_ref, quot_ref, AtomsIn, no_atom, one_atom}
use Rattle.xml_grammar.specs.Productions.{is_the, RunIn, a_run, RowIn, row_ends, run_first, empty_first, full_first, DeclarationIn, not_declared, Derives, text}
use Rattle.xml_grammar.proofs.Moves.{state, Runs, still, onto}
use Rattle.xml_grammar.proofs.Patterns.{chosen, Reach, ends, byte, left, right, reach_back, say-reach}
use Rattle.xml_grammar.proofs.Live.{Live, live_after, live_declaration, in_reference}
use Rattle.xml_grammar.proofs.Wide.{wide_passed, live_wide, from_high, from_low, is_low}
use Rattle.xml_grammar.proofs.Squares.{more, fine, fine_marks}
use Rattle.xml_grammar.proofs.Declared.{declaration_passed}
use Rattle.paper.specs.Xml as Xml
use Rattle.xml_grammar.specs.Productions as Productions

-- A BYTE MORE at the end of what a production says.

many_more : {set : ℕ → Bool} {b at to : ℕ} {bs rest : List ℕ} → ManyIn set at bs to (b ∷ rest) → set b ≡ true → ManyIn set at bs (suc to) rest
many_more no_more h = one_more h no_more
many_more (one_more k m) h = one_more k (many_more m h)

pub some_many : {set : ℕ → Bool} {at to : ℕ} {bs rest : List ℕ} → SomeIn set at bs to rest → ManyIn set at bs to rest
some_many (at_least h m) = one_more h m

many_some : {set : ℕ → Bool} {b at to : ℕ} {bs rest : List ℕ} → ManyIn set at bs to (b ∷ rest) → set b ≡ true → SomeIn set at bs (suc to) rest
many_some no_more h = at_least h no_more
many_some (one_more k m) h = at_least k (many_more m h)

parts_more : {b at to : ℕ} {bs name rest : List ℕ} → PartsIn at bs name to (b ∷ rest) → name_part b ≡ true → PartsIn at bs (name ++ (b ∷ [])) (suc to) rest
parts_more name_ends h = name_goes_on h name_ends
parts_more (name_goes_on k p) h = name_goes_on k (parts_more p h)

name-more : {b at to : ℕ} {bs name rest : List ℕ} → NameIn at bs name to (b ∷ rest) → name_part b ≡ true → NameIn at bs (name ++ (b ∷ [])) (suc to) rest
name-more (name-starts k p) h = name-starts k (parts_more p h)

say_more : {b at to : ℕ} {ws bs rest : List ℕ} → SayIn ws at bs to (b ∷ rest) → SayIn (ws ++ (b ∷ [])) at bs (suc to) rest
say_more said = saying said
say_more (saying s) = saying (say_more s)

-- ROWS.

pub beside_assoc : (a b c : Nodes) → beside (beside a b) c ≡ beside a (beside b c)
beside_assoc nothing b c = refl
beside_assoc (element name begin end inside rest) b c = ap (element name begin end inside) (beside_assoc rest b c)
beside_assoc (chars begin end rest) b c = ap (chars begin end) (beside_assoc rest b c)

-- One element, and the row that begins with it.
pub data ElementIn : ℕ → List ℕ → List ℕ → Nodes → ℕ → List ℕ → Type 0 where
  empty_element : {at p q : ℕ} {bs cs ds name : List ℕ} → NameIn (suc at) bs name p cs → ManyIn white p cs q (47 ∷ 62 ∷ ds) → ElementIn at (60 ∷ bs) name nothing (suc (suc q)) ds
  full_element : {at p q r s t : ℕ} {bs cs ds es fs gs name : List ℕ} {inside : Nodes} → NameIn (suc at) bs name p cs → ManyIn white p cs q (62 ∷ ds)
      → RowIn true (suc q) ds inside r (60 ∷ 47 ∷ es) → SayIn name (suc (suc r)) es s fs → ManyIn white s fs t (62 ∷ gs) → ElementIn at (60 ∷ bs) name inside (suc t) gs

pub element_row : {fresh : Bool} {at past to : ℕ} {bs cs rest name : List ℕ} {inside more : Nodes} → ElementIn at bs name inside past cs → RowIn true past cs more to rest
    → RowIn fresh at bs (element name at past inside more) to rest
element_row (empty_element n m) r = empty_first n m r
element_row (full_element n m i s e) r = full_first n m i s e r

-- A row as far as it is read; `fresh` says that a run may come next.
pub data Sofar (from : ℕ) (ds : List ℕ) : Bool → Nodes → ℕ → List ℕ → Type 0 where
  none_yet : Sofar from ds true nothing from ds
  run_more : {q r : ℕ} {bs rest : List ℕ} {row : Nodes} → Sofar from ds true row q bs → RunIn q bs r rest → Sofar from ds false (beside row (chars q r nothing)) r rest
  element_more : {fresh : Bool} {q r : ℕ} {bs rest name : List ℕ} {row inside : Nodes} → Sofar from ds fresh row q bs → ElementIn q bs name inside r rest
      → Sofar from ds true (beside row (element name q r inside nothing)) r rest

sofar_row : {from : ℕ} {ds : List ℕ} {fresh : Bool} {at to : ℕ} {bs rest : List ℕ} {row more : Nodes} → Sofar from ds fresh row at bs → RowIn fresh at bs more to rest → RowIn true from ds (beside row more) to rest
sofar_row none_yet r = r
sofar_row {from = from} {ds = ds} {to = to} {rest = rest} {more = more} (run_more {q = q} {r = e} {row = row} s u) r =
    subst (λ n. RowIn true from ds n to rest) (sym (beside_assoc row (chars q e nothing) more)) (sofar_row s (run_first u r))
sofar_row {from = from} {ds = ds} {to = to} {rest = rest} {more = more} (element_more {q = q} {r = e} {name = name} {row = row} {inside = inside} s u) r =
    subst (λ n. RowIn true from ds n to rest) (sym (beside_assoc row (element name q e inside nothing) more)) (sofar_row s (element_row u r))

pub beside_nothing : (a : Nodes) → beside a nothing ≡ a
beside_nothing nothing = refl
beside_nothing (element name begin end inside rest) = ap (element name begin end inside) (beside_nothing rest)
beside_nothing (chars begin end rest) = ap (chars begin end) (beside_nothing rest)

pub whole_row : {fresh : Bool} {from at : ℕ} {ds bs : List ℕ} {row : Nodes} → Sofar from ds fresh row at bs → RowIn true from ds row at bs
whole_row {from = from} {at = at} {ds = ds} {bs = bs} {row = row} s = subst (λ n. RowIn true from ds n at bs) (beside_nothing row) (sofar_row s row_ends)

-- Atoms as far as they are read, with the `]` at the end.
pub data Grown (from : ℕ) (ds : List ℕ) : ℕ → ℕ → List ℕ → Type 0 where
  no_atoms : Grown from ds 0 from ds
  atom_more : {k at to : ℕ} {bs rest : List ℕ} {x : Atom} → Grown from ds k at bs → AtomIn at bs x to rest → (is_the 62 x && eqb k 2) ≡ false → Grown from ds (more k x) to rest

grown_run : {from : ℕ} {ds : List ℕ} {at to k : ℕ} {bs rest : List ℕ} {x : Atom} {xs : List Atom} → Grown from ds k at bs → AtomsIn at bs (x ∷ xs) to rest → fine k (x ∷ xs) ≡ true → RunIn from ds to rest
grown_run {x = x} {xs = xs} no_atoms a f = a_run a (fine_marks (x ∷ xs) f)
grown_run (atom_more g b o) a f = grown_run g (one_atom b a) (rw o f)

over : {ws : List ℕ} {at mid to : ℕ} {bs cs rest : List ℕ} → SayIn ws at bs mid cs → Reach done done mid cs to rest → SayIn ws at bs to rest
over s ends = s

done_here : (q : Pattern) {at : ℕ} {bs : List ℕ} → is_done q ≡ true → Reach q done at bs at bs
done_here done h = ends
done_here (one set p) h = absurd (false≢true h)
done_here (many set p) h = absurd (false≢true h)
done_here (fork p q) h = absurd (false≢true h)
done_here (encoding quote p) h = absurd (false≢true h)

-- A character of one byte.
plain_char : (b : ℕ) → plain b ≡ true → (is_char b ≡ true) × (utf8 b ≡ b ∷ [])
plain_char b h =
    ⊎_elim
    (λ a.
    ⊎_elim
    (λ c.
    ⊎_elim (λ d. let u = from_low 32 127 b d in let v = from_high 32 127 b d in (is_low b u (omega arith), one_byte (omega arith))) (λ d. this 9 refl refl (eqb-true b 9 d))
    (or_true (from 32 127 b) (eqb b 9) c))
    (λ c. this 10 refl refl (eqb-true b 10 c)) (or_true (from 32 127 b || eqb b 9) (eqb b 10) a))
    (λ a. this 13 refl refl (eqb-true b 13 a)) (or_true (from 32 127 b || eqb b 9 || eqb b 10) (eqb b 13) h)
  where
    one_byte : b < 128 → utf8 b ≡ b ∷ []
    one_byte l = rw (lt-ltb b 128 l)

    this : (c : ℕ) → is_char c ≡ true → utf8 c ≡ c ∷ [] → b ≡ c → (is_char b ≡ true) × (utf8 b ≡ b ∷ [])
    this c i u e = subst (λ x. (is_char x ≡ true) × (utf8 x ≡ x ∷ [])) (sym e) (i, u)

-- OPEN ELEMENTS.

abbrev pub frame : List ℕ → ℕ → Nodes → Frame
frame name begin row = record { name = name; begin = begin; inside = row }

-- Before the one element, or in the rows of the open ones as far as they are read.
pub data Open (whole : List ℕ) : List Frame → Bool → ℕ → List ℕ → Type 0 where
  outside : {p at : ℕ} {cs bs : List ℕ} → DeclarationIn whole p cs → ManyIn white p cs at bs → Open whole [] false at bs
  within : {fresh older : Bool} {begin p q at : ℕ} {cs ds es bs name : List ℕ} {row : Nodes} {fs : List Frame} → Open whole fs older begin (60 ∷ cs) → NameIn (suc begin) cs name p ds
      → ManyIn white p ds q (62 ∷ es) → Sofar (suc q) es fresh row at bs → Open whole (frame name begin row ∷ fs) fresh at bs

-- The ways from a pattern that go on from another.
abbrev pub Passed : Pattern → ℕ → List ℕ → Pattern → ℕ → List ℕ → Type 0
Passed whole mid ds p at bs = (q : Pattern) (to : ℕ) (rest : List ℕ) → Reach p q at bs to rest → Reach whole q mid ds to rest

-- An atom of several bytes.
pub data Long : Pattern → Type 0 where
  a_reference : Long (one (eqb 38) Xml.reference)
  a_wide : Long wide

-- Bytes of the whole text that are left.
pub data Left (whole : List ℕ) : List ℕ → Type 0 where
  left-of : (u : List ℕ) {bs : List ℕ} → u ++ bs ≡ whole → Left whole bs

-- WHERE READING STANDS, and what was read.
pub data Reached : List ℕ → Mode → List Frame → ℕ → List ℕ → Type 0 where
  at-start : {whole : List ℕ} → Reached whole start [] 0 whole
  at_first : {bs : List ℕ} → Reached (60 ∷ bs) first [] 1 bs
  in_heading : {p : Pattern} {at : ℕ} {cs bs : List ℕ} → Passed (say (ascii "xml") declaration) 2 cs p at bs → Live p → is_done p ≡ false → Reached (60 ∷ 63 ∷ cs) (heading p) [] at bs
  at_ahead : {whole bs : List ℕ} {at : ℕ} → Open whole [] false at bs → Reached whole ahead [] at bs
  at_opening : {whole bs : List ℕ} {begin : ℕ} {older : Bool} {fs : List Frame} → Left whole (60 ∷ bs) → Open whole fs older begin (60 ∷ bs) → Reached whole (opening begin) fs (suc begin) bs
  in_name_lem : {whole cs bs name : List ℕ} {begin at : ℕ} {older : Bool} {fs : List Frame} → Left whole (60 ∷ cs) → Open whole fs older begin (60 ∷ cs) → NameIn (suc begin) cs name at bs
      → Reached whole (in_name begin name) fs at bs
  in_tag_lem : {whole cs ds bs name : List ℕ} {begin p at : ℕ} {older : Bool} {fs : List Frame} → Left whole (60 ∷ cs) → Open whole fs older begin (60 ∷ cs) → NameIn (suc begin) cs name p ds
      → SomeIn white p ds at bs → Reached whole (in_tag begin name) fs at bs
  at_emptied : {whole cs ds bs name : List ℕ} {begin p q : ℕ} {older : Bool} {fs : List Frame} → Open whole fs older begin (60 ∷ cs) → NameIn (suc begin) cs name p ds
      → ManyIn white p ds q (47 ∷ bs) → Reached whole (emptied begin name) fs (suc q) bs
  at_content : {whole bs : List ℕ} {at : ℕ} {f : Frame} {fs : List Frame} → Open whole (f ∷ fs) true at bs → Reached whole content (f ∷ fs) at bs
  in_run : {whole cs bs : List ℕ} {begin k at : ℕ} {f : Frame} {fs : List Frame} → Open whole (f ∷ fs) true begin cs → Grown begin cs k at bs → RunIn begin cs at bs
      → Reached whole (run begin k) (f ∷ fs) at bs
  in_part : {whole cs ds bs : List ℕ} {begin k mid at : ℕ} {p long : Pattern} {f : Frame} {fs : List Frame} → Open whole (f ∷ fs) true begin cs → Grown begin cs k mid ds → Long long
      → Passed long mid ds p at bs → Live p → is_done p ≡ false → Reached whole (partly begin p) (f ∷ fs) at bs
  in_closing : {whole es bs ws xs : List ℕ} {x r at : ℕ} {older : Bool} {f : Frame} {fs : List Frame} → Open whole (f ∷ fs) older r (60 ∷ 47 ∷ es) → SayIn ws (suc (suc r)) es at bs
      → ws ++ (x ∷ xs) ≡ f.name → Reached whole (closing (x ∷ xs)) (f ∷ fs) at bs
  at_closing : {whole es gs bs : List ℕ} {r s at : ℕ} {older : Bool} {f : Frame} {fs : List Frame} → Open whole (f ∷ fs) older r (60 ∷ 47 ∷ es) → SayIn f.name (suc (suc r)) es s gs
      → ManyIn white s gs at bs → Reached whole (closing []) (f ∷ fs) at bs
  at_ended : {whole ds es bs name : List ℕ} {q begin past r at : ℕ} {inside : Nodes} → Open whole [] false q ds → RowIn false q ds (element name begin past inside nothing) r es
      → ManyIn white r es at bs → Reached whole (ended (element name begin past inside nothing)) [] at bs

abbrev pub There : List ℕ → State → ℕ → List ℕ → Type 0
There whole s at bs = Reached whole s.mode s.frames at bs

-- ONE BYTE.

module _ {whole : List ℕ} where
  stands_there : {m : Mode} {fs : List Frame} {s : State} {at : ℕ} {bs : List ℕ} → stands m fs ≡ some s → Reached whole m fs at bs → There whole s at bs
  stands_there {at = at} {bs = bs} h r = subst (λ z. There whole z at bs) (some_inj h) r

  -- An element is read to its end.
  add_there : {fs : List Frame} {older : Bool} {begin past : ℕ} {cs bs name : List ℕ} {inside : Nodes} {s : State} → Open whole fs older begin cs → ElementIn begin cs name inside past bs
      → add (element name begin past inside nothing) fs ≡ some s → There whole s past bs
  add_there (outside d m) e h = stands_there h (at_ended (outside d m) (element_row e row_ends) no_more)
  add_there (within o n m r) e h = stands_there h (at_content (within o n m (element_more r e)))

  -- A name begins, or an end tag.
  slash_there : {fs : List Frame} {older : Bool} {begin : ℕ} {bs : List ℕ} {s : State} → Open whole fs older begin (60 ∷ 47 ∷ bs) → name_or_slash begin fs 47 ≡ some s → There whole s (suc (suc begin)) bs
  slash_there (outside d m) h = none-some h
  slash_there (within o (name-starts k p) m r) h = stands_there h (in_closing (within o (name-starts k p) m r) said refl)

  name-or-slash : {fs : List Frame} {older : Bool} {begin b : ℕ} {bs : List ℕ} {s : State} → Left whole (60 ∷ b ∷ bs) → Open whole fs older begin (60 ∷ b ∷ bs) → name_or_slash begin fs b ≡ some s
      → There whole s (suc (suc begin)) bs
  name-or-slash {fs} {older} {begin} {b} {bs} {s} l o h =
      chosen (name_start b) h (λ k e. stands_there e (in_name_lem l o (name-starts k name_ends)))
      (λ k e. chosen (eqb b 47) e (λ k e. slash_there (subst (λ x. Open whole fs older begin (60 ∷ x ∷ bs)) (eqb-true b 47 k) o) (subst (λ x. name_or_slash begin fs x ≡ some s) (eqb-true b 47 k) h)) (λ k e. none-some e))

  -- White space in a start tag, or its end.
  tag-goes-on : {fs : List Frame} {older : Bool} {begin b p at : ℕ} {cs ds bs name : List ℕ} {s : State} → Left whole (60 ∷ cs) → Open whole fs older begin (60 ∷ cs) → NameIn (suc begin) cs name p ds
      → ManyIn white p ds at (b ∷ bs) → tag_goes_on begin name fs b ≡ some s → There whole s (suc at) bs
  tag-goes-on {b = b} {p} {at} {cs} {ds} {bs} l o n m h =
      chosen (white b) h (λ k e. stands_there e (in_tag_lem l o n (many_some m k)))
      (λ k e.
      chosen (eqb b 47) e (λ k e. stands_there e (at_emptied o n (subst (λ x. ManyIn white p ds at (x ∷ bs)) (eqb-true b 47 k) m)))
      (λ k e.
      chosen (eqb b 62) e (λ k e. stands_there e (at_content (within o n (subst (λ x. ManyIn white p ds at (x ∷ bs)) (eqb-true b 62 k) m) none_yet)))
      (λ k e. none-some e)))

  -- An atom is read to its end.
  atom_there : {f : Frame} {fs : List Frame} {begin k mid at : ℕ} {cs ds bs : List ℕ} {x : Atom} → Open whole (f ∷ fs) true begin cs → Grown begin cs k mid ds → AtomIn mid ds x at bs
      → (is_the 62 x && eqb k 2) ≡ false → Reached whole (run begin (more k x)) (f ∷ fs) at bs
  atom_there {k = k} {x = x} o g a h = in_run o (atom_more g a h) (grown_run g (one_atom a no_atom) (rw h))

  long_there : {f : Frame} {fs : List Frame} {begin k mid at : ℕ} {cs ds bs : List ℕ} {long : Pattern} → Open whole (f ∷ fs) true begin cs → Grown begin cs k mid ds → Long long
      → Reach long done mid ds at bs → Reached whole (run begin 0) (f ∷ fs) at bs
  long_there o g a_reference (byte {b = b} {at = mid} {to = to} {bs = bs} {rest = rest} h r) =
      atom_there o g (subst (λ x. AtomIn mid (x ∷ bs) Productions.reference to rest) (eqb-true 38 b h) (five r)) refl
    where
      five : Reach Xml.reference done (suc mid) bs to rest → AtomIn mid (38 ∷ bs) Productions.reference to rest
      five (left r) = say-reach (ascii "lt;") r (λ m cs s t. lt_ref (saying (over s t)))
      five (right (left r)) = say-reach (ascii "gt;") r (λ m cs s t. gt_ref (saying (over s t)))
      five (right (right (left r))) = say-reach (ascii "amp;") r (λ m cs s t. amp_ref (saying (over s t)))
      five (right (right (right (left r)))) = say-reach (ascii "apos;") r (λ m cs s t. apos_ref (saying (over s t)))
      five (right (right (right (right r)))) = say-reach (ascii "quot;") r (λ m cs s t. quot_ref (saying (over s t)))
  long_there {f = f} {fs = fs} {begin = begin} {k = k} {at = at} {bs = bs} o g a_wide r =
      let w = wide_passed r in
      let b : 128 ≤ w.number = w.beyond in
      let no_square : eqb w.number 93 ≡ false = ne_eqb w.number 93 (λ e. omega arith) in
      let no-greater : eqb w.number 62 ≡ false = ne_eqb w.number 62 (λ e. omega arith) in
      subst (λ n. Reached whole (run begin n) (f ∷ fs) at bs) (rw no_square) (atom_there o g w.atom (rw no-greater))

  -- In an atom of several bytes.
  goes_on_lem : {f : Frame} {fs : List Frame} {begin b k mid at : ℕ} {cs ds bs : List ℕ} (p : Pattern) {long : Pattern} {s : State} → Open whole (f ∷ fs) true begin cs → Grown begin cs k mid ds
      → Long long → Passed long mid ds p at (b ∷ bs) → ((q : Pattern) → after p b ≡ some q → Live q) → goes_on begin (f ∷ fs) (after p b) ≡ some s → There whole s (suc at) bs
  goes_on_lem {f} {fs} {begin} {b} {at = at} {bs = bs} p {s = s} o g w pass live h = go (after p b) refl h
    where
      go : (x : Option Pattern) → after p b ≡ x → goes_on begin (f ∷ fs) x ≡ some s → There whole s (suc at) bs
      go none e h = none-some h
      go (some q) e h =
          chosen (is_done q) h (λ d k. stands_there k (long_there o g w (pass done (suc at) bs (reach_back p e (done_here q d)))))
          (λ d k. stands_there k (in_part o g w (λ r to rest t. pass r to rest (reach_back p e t)) (live q e) d))

  -- A byte of a run.
  char-goes-on : {f : Frame} {fs : List Frame} {begin b k at : ℕ} {cs bs : List ℕ} {s : State} → Open whole (f ∷ fs) true begin cs → Grown begin cs k at (b ∷ bs) → eqb b 60 ≡ false
      → char_goes_on begin k (f ∷ fs) b ≡ some s → There whole s (suc at) bs
  char-goes-on {f} {fs} {begin} {b} {k} {at} {cs} {bs} {s} o g n h =
      chosen (eqb b 38) h
      (λ i e.
      stands_there e
      (in_part o (subst (λ x. Grown begin cs k at (x ∷ bs)) (eqb-true b 38 i) g) a_reference (λ q to rest r. byte refl r) in_reference refl))
      (λ i1 e1.
      chosen (eqb b 93) e1
      (λ i e.
      stands_there e
      (atom_there {x = char 93} o (subst (λ x. Grown begin cs k at (x ∷ bs)) (eqb-true b 93 i) g) (a_char refl refl refl (saying said)) refl))
      (λ i2 e2.
      chosen (eqb b 62 && eqb k 2) e2 (λ i e. none-some e)
      (λ i3 e3.
      chosen (plain b) e3
      (λ i e.
      let m = plain_char b i in
      let say : SayIn (utf8 b) at (b ∷ bs) (suc at) bs = subst (λ l. SayIn l at (b ∷ bs) (suc at) bs) (sym m.1) (saying said) in
      let zero_left : more k (char b) ≡ 0 = rw i2 in
      stands_there e (subst (λ j. Reached whole (run begin j) (f ∷ fs) (suc at) bs) zero_left (atom_there {x = char b} o g (a_char m.0 n i1 say) i3)))
      (λ i e. goes_on_lem wide o g a_wide (λ q to rest r. r) (λ q e. live_wide b e) e))))

  -- A run ends where a tag begins.
  run_ends_lem : {f : Frame} {fs : List Frame} {begin at : ℕ} {cs bs : List ℕ} {s : State} → Open whole (f ∷ fs) true begin cs → RunIn begin cs at (60 ∷ bs) → Left whole (60 ∷ bs)
      → run_ends begin at (f ∷ fs) ≡ some s → There whole s (suc at) bs
  run_ends_lem (within o n m r) u l h = stands_there h (at_opening l (within o n m (run_more r u)))

  -- A byte of an end tag's name.
  closes : {f : Frame} {fs : List Frame} {older : Bool} {x r at : ℕ} {es bs ws xs : List ℕ} {s : State} → Open whole (f ∷ fs) older r (60 ∷ 47 ∷ es) → SayIn ws (suc (suc r)) es at (x ∷ bs)
      → ws ++ (x ∷ xs) ≡ f.name → stands (closing xs) (f ∷ fs) ≡ some s → There whole s (suc at) bs
  closes {r = r} {at = at} {es = es} {bs = bs} {xs = []} o y e h = stands_there h (at_closing o (subst (λ w. SayIn w (suc (suc r)) es (suc at) bs) e (say_more y)) no_more)
  closes {x = x} {ws = ws} {xs = z ∷ zs} o y e h = stands_there h (in_closing o (say_more y) (append_assoc ws (x ∷ []) (z ∷ zs) ∙ e))

  close_there : {f : Frame} {fs : List Frame} {older : Bool} {r u at : ℕ} {es gs bs : List ℕ} {s : State} → Open whole (f ∷ fs) older r (60 ∷ 47 ∷ es) → SayIn f.name (suc (suc r)) es u gs
      → ManyIn white u gs at (62 ∷ bs) → close (suc at) (f ∷ fs) ≡ some s → There whole s (suc at) bs
  close_there (within o n m r) y i h = add_there o (full_element n m (whole_row r) y i) h

  ahead_more : {b at : ℕ} {bs : List ℕ} → Open whole [] false at (b ∷ bs) → white b ≡ true → Open whole [] false (suc at) bs
  ahead_more (outside d m) h = outside d (many_more m h)

-- The end of the declaration.
heading_there : {b at : ℕ} {cs bs : List ℕ} (p : Pattern) {s : State} → Passed (say (ascii "xml") declaration) 2 cs p at (b ∷ bs) → Live p → heading_goes_on (after p b) ≡ some s
    → There (60 ∷ 63 ∷ cs) s (suc at) bs
heading_there {b} {at} {cs} {bs} p {s = s} pass live h = go (after p b) refl h
  where
    go : (x : Option Pattern) → after p b ≡ x → heading_goes_on x ≡ some s → There (60 ∷ 63 ∷ cs) s (suc at) bs
    go none e h = none-some h
    go (some q) e h =
        chosen (is_done q) h
        (λ d k. stands_there k (at_ahead (outside (declaration_passed (pass done (suc at) bs (reach_back p e (done_here q d)))) no_more)))
        (λ d k. stands_there k (in_heading (λ r to rest t. pass r to rest (reach_back p e t)) (live_after b live e) d))

pub reached_step : {whole bs : List ℕ} {m : Mode} {fs : List Frame} {b at : ℕ} {s : State} → Left whole (b ∷ bs) → Reached whole m fs at (b ∷ bs) → step_mode m at fs b ≡ some s
    → There whole s (suc at) bs
reached_step {bs = bs} {b = b} l at-start h =
    chosen (white b) h (λ k e. stands_there e (at_ahead (outside not_declared (one_more k no_more))))
    (λ k e. chosen (eqb b 60) e (λ k e. stands_there e (subst (λ x. Reached (x ∷ bs) first [] 1 bs) (sym (eqb-true b 60 k)) at_first)) (λ k e. none-some e))
reached_step {bs = bs} {b = b} {s = s} l at_first h =
    chosen (eqb b 63) h
    (λ k e. stands_there e (subst (λ x. Reached (60 ∷ x ∷ bs) (heading (say (ascii "xml") declaration)) [] 2 bs) (sym (eqb-true b 63 k)) (in_heading (λ q to rest r. r) live_declaration refl)))
    (λ k e. name-or-slash (left-of [] refl) (outside not_declared no_more) e)
reached_step l (in_heading {p = p} pass live d) h = heading_there p pass live h
reached_step {whole = whole} {bs = bs} {b = b} {at = at} l (at_ahead o) h =
    chosen (white b) h (λ k e. stands_there e (at_ahead (ahead_more o k)))
    (λ k e.
    chosen (eqb b 60) e
    (λ k e.
    stands_there e (at_opening (subst (λ x. Left whole (x ∷ bs)) (eqb-true b 60 k) l) (subst (λ x. Open whole [] false at (x ∷ bs)) (eqb-true b 60 k) o)))
    (λ k e. none-some e))
reached_step l (at_opening t o) h = name-or-slash t o h
reached_step {b = b} l (in_name_lem t o n) h =
    chosen (name_part b) h (λ k e. stands_there e (in_name_lem t o (name-more n k))) (λ k e. tag-goes-on t o n no_more e)
reached_step l (in_tag_lem t o n w) h = tag-goes-on t o n (some_many w) h
reached_step {bs = bs} {b = b} l (at_emptied {ds = ds} {p = p} {q = q} o n m) h =
    chosen (eqb b 62) h (λ k e. add_there o (empty_element n (subst (λ x. ManyIn white p ds q (47 ∷ x ∷ bs)) (eqb-true b 62 k) m)) e) (λ k e. none-some e)
reached_step {whole = whole} {bs = bs} {b = b} {at = at} l (at_content {f = f} {fs = fs} o) h =
    chosen (eqb b 60) h
    (λ k e. stands_there e (at_opening (subst (λ x. Left whole (x ∷ bs)) (eqb-true b 60 k) l) (subst (λ x. Open whole (f ∷ fs) true at (x ∷ bs)) (eqb-true b 60 k) o)))
    (λ k e. char-goes-on o no_atoms k e)
reached_step {whole = whole} {bs = bs} {b = b} {at = at} l (in_run {cs = cs} {begin = begin} o g r) h =
    chosen (eqb b 60) h
    (λ k e. run_ends_lem o (subst (λ x. RunIn begin cs at (x ∷ bs)) (eqb-true b 60 k) r) (subst (λ x. Left whole (x ∷ bs)) (eqb-true b 60 k) l) e)
    (λ k e. char-goes-on o g k e)
reached_step {b = b} l (in_part {p = p} o g w pass live d) h = goes_on_lem p o g w pass (λ q e. live_after b live e) h
reached_step {whole = whole} {bs = bs} {b = b} {at = at} l (in_closing {es = es} {ws = ws} {xs = xs} {x = x} {r = r} o y e) h =
    chosen (eqb b x) h (λ k u. closes o (subst (λ z. SayIn ws (suc (suc r)) es at (z ∷ bs)) (eqb-true b x k) y) e u) (λ k u. none-some u)
reached_step {bs = bs} {b = b} {at = at} l (at_closing {gs = gs} {s = u} o y m) h =
    chosen (white b) h (λ k e. stands_there e (at_closing o y (many_more m k)))
    (λ k e. chosen (eqb b 62) e (λ k e. close_there o y (subst (λ x. ManyIn white u gs at (x ∷ bs)) (eqb-true b 62 k) m) e) (λ k e. none-some e))
reached_step {b = b} l (at_ended o r m) h = chosen (white b) h (λ k e. stands_there e (at_ended o r (many_more m k))) (λ k e. none-some e)

-- ALL THE BYTES.

left_next : {whole bs : List ℕ} {b : ℕ} → Left whole (b ∷ bs) → Left whole bs
left_next {bs = bs} {b = b} (left-of u e) = left-of (u ++ (b ∷ [])) (append_assoc u (b ∷ []) bs ∙ e)

reached_runs : {whole bs : List ℕ} {at : ℕ} {s t : State} → Left whole bs → There whole s at bs → Runs at s bs t → (to : ℕ) × There whole t to []
reached_runs l r (still {at = at}) = (at, r)
reached_runs l r (onto h q) = reached_runs (left_next l) (reached_step l r h) q

pub reached : {whole : List ℕ} {t : State} → Runs 0 (state start []) whole t → (to : ℕ) × There whole t to []
reached r = reached_runs (left-of [] refl) at-start r

-- SOUND: where reading ends past the element, the text is derived.
derived_there : {whole : List ℕ} {m : Mode} {fs : List Frame} {to : ℕ} {tree : Nodes} → Reached whole m fs to [] → m ≡ ended tree → Derives whole tree
derived_there at-start e = absurd (let z : ◌≡◌ {A = ℕ} 0 1 = cc in omega arith)
derived_there at_first e = absurd (let z : ◌≡◌ {A = ℕ} 0 1 = cc in omega arith)
derived_there (in_heading pass live d) e = absurd (let z : ◌≡◌ {A = ℕ} 0 1 = cc in omega arith)
derived_there (at_ahead o) e = absurd (let z : ◌≡◌ {A = ℕ} 0 1 = cc in omega arith)
derived_there (at_opening l o) e = absurd (let z : ◌≡◌ {A = ℕ} 0 1 = cc in omega arith)
derived_there (in_name_lem l o n) e = absurd (let z : ◌≡◌ {A = ℕ} 0 1 = cc in omega arith)
derived_there (in_tag_lem l o n w) e = absurd (let z : ◌≡◌ {A = ℕ} 0 1 = cc in omega arith)
derived_there (at_emptied o n m) e = absurd (let z : ◌≡◌ {A = ℕ} 0 1 = cc in omega arith)
derived_there (at_content o) e = absurd (let z : ◌≡◌ {A = ℕ} 0 1 = cc in omega arith)
derived_there (in_run o g r) e = absurd (let z : ◌≡◌ {A = ℕ} 0 1 = cc in omega arith)
derived_there (in_part o g w pass live d) e = absurd (let z : ◌≡◌ {A = ℕ} 0 1 = cc in omega arith)
derived_there (in_closing o y q) e = absurd (let z : ◌≡◌ {A = ℕ} 0 1 = cc in omega arith)
derived_there (at_closing o y m) e = absurd (let z : ◌≡◌ {A = ℕ} 0 1 = cc in omega arith)
derived_there {whole = whole} {tree = tree} (at_ended (outside d m) r n) e = subst (Derives whole) (let f : ended _ ≡ ended tree = e in cc) (text d m r n)

pub derived : {whole : List ℕ} {tree : Nodes} {u : State} → Runs 0 (state start []) whole u → u.mode ≡ ended tree → Derives whole tree
derived r e = derived_there (reached r).1 e
