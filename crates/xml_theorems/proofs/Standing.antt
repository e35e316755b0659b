-- Each node stands where its place says: elements from `<` to `>`, texts between `>` and `<`.
-- By the derivation, each production of which stands in the text at its place. Assumes nothing.
use Prim.Native.Nat.{ℕ, zero, suc, ◌+◌, ◌/◌, ◌%◌, ◌<◌, ◌≤◌}
use native.Mathlib.Omega.{arith}
use native.Mathlib.Decide.{ℕ_discrete, dec_lt}
use mathlib.Core.Path.{◌≡◌, refl, sym, ◌∙◌, ap, subst}
use mathlib.Core.Bool.{Bool, true, false, cond, false≢true}
use mathlib.Core.List.{List, [], ◌∷◌}
use mathlib.Core.Logic.{by_cases}
use lib.Dec.{eqb, ltb}
use lib.ListN.{length, get_or, drop}
use borrow.Author.Tests.{eq-eqb}
use Rattle.paper.specs.Xml.{Nodes, nothing, element, chars, What, Row, row, rows, table, count, starts}
use Rattle.paper.proofs.Tests.{true_and}
use Rattle.xml_grammar.specs.Productions.{SayIn, said, saying, PartsIn, name_ends, name_goes_on, NameIn, name-starts, utf8, Atom, AtomIn, a_char, lt_ref, gt_ref, amp_ref, apos_ref, quot_ref}
use Rattle.xml_grammar.specs.Productions.{AtomsIn, no_atom, one_atom, RunIn, a_run, RowIn, row_ends, run_first, empty_first, full_first, Derives}
use Rattle.xml_theorems.specs.Tables.{RightPast, ElementStands, TextStands, Standing, TreeStands, line_at, ElementsStand, TextsStand}
use Rattle.xml_verdicts.proofs.Accepted.{accepted}
use Rattle.xml_theorems.proofs.Nesting.{drop_next, say_further, many_further, name_further, atom_further, run_further, declaration_further, rowed}
use Rattle.xml_theorems.proofs.Numbered.{Stand, stand_element, stand_inside, stand_rest, stand_chars, stand_behind, three, two}
use Rattle.xml_theorems.proofs.Placed.{named_text, root_text, stand_table, length_table}

-- The byte at a place.
byte_at : {b : ℕ} {bs : List ℕ} (at : ℕ) (text : List ℕ) → drop at text ≡ b ∷ bs → get_or text at 0 ≡ b
byte_at zero [] h = absurd (let z : ◌≡◌ {A = ℕ} 0 1 = cc in omega arith)
byte_at zero (x ∷ text) h = ap (λ (l : List ℕ). get_or l 0 0) h
byte_at (suc at) [] h = absurd (let z : ◌≡◌ {A = ℕ} 0 1 = cc in omega arith)
byte_at (suc at) (x ∷ text) h = byte_at at text h

right_past : {b : ℕ} {bs : List ℕ} (at : ℕ) (text : List ℕ) → drop at text ≡ b ∷ bs → RightPast text b (suc at)
right_past at text h = record { last = at; next = refl; stands = byte_at at text h }

-- A name stands as it is read.
parts_start : {at to : ℕ} {bs name rest : List ℕ} → PartsIn at bs name to rest → starts name bs ≡ true
parts_start name_ends = refl
parts_start (name_goes_on {b = b} h r) = true_and (eq-eqb b b refl) (parts_start r)

name-start : {at to : ℕ} {bs name rest : List ℕ} → NameIn at bs name to rest → starts name bs ≡ true
name-start (name-starts {b = b} h r) = true_and (eq-eqb b b refl) (parts_start r)

-- No `<` in a row of bytes.
abbrev Clear : List ℕ → Type 0
Clear [] = Unit
Clear (b ∷ bs) = (b ≡ 60 → ⊥) × Clear bs

say_clear : {ws bs rest : List ℕ} {at to : ℕ} → SayIn ws at bs to rest → Clear ws → (text : List ℕ) → drop at text ≡ bs → (k : ℕ) → at ≤ k → k < to → get_or text k 0 ≡ 60 → ⊥
say_clear said c text h k a l z = absurd (omega arith)
say_clear {at = at} (saying {b = b} r) c text h k a l z =
    by_cases (ℕ_discrete k at) (λ e. c.0 (sym (byte_at at text h) ∙ ap (λ m. get_or text m 0) (sym e) ∙ z))
    (λ e. say_clear r c.1 text (drop_next at text h) k (omega arith) l z)

utf8_clear : (c : ℕ) → (c ≡ 60 → ⊥) → Clear (utf8 c)
utf8_clear c n = go (ltb c 128) (ltb c 2048) (ltb c 65536)
  where
    go : (x y z : Bool)
        → Clear
        (cond x (c ∷ [])
        (cond y ((192 + c / 64) ∷ (128 + c % 64) ∷ [])
        (cond z ((224 + c / 4096) ∷ (128 + c / 64 % 64) ∷ (128 + c % 64) ∷ [])
        ((240 + c / 262144) ∷ (128 + c / 4096 % 64) ∷ (128 + c / 64 % 64) ∷ (128 + c % 64) ∷ []))))
    go true y z = (n, tt)
    go false true z = (λ e. omega (arith, e), (λ e. omega (arith, e), tt))
    go false false true = (λ e. omega (arith, e), (λ e. omega (arith, e), (λ e. omega (arith, e), tt)))
    go false false false = (λ e. omega (arith, e), (λ e. omega (arith, e), (λ e. omega (arith, e), (λ e. omega (arith, e), tt))))

-- No `<` in a character, a reference or a run of them.
abbrev NoLess : ℕ → List ℕ → ℕ → Type 0
NoLess at bs to = (text : List ℕ) → drop at text ≡ bs → (k : ℕ) → at ≤ k → k < to → get_or text k 0 ≡ 60 → ⊥

other : (c d : ℕ) → eqb c d ≡ false → c ≡ d → ⊥
other c d h e = false≢true (sym h ∙ eq-eqb c d e)

atom_clear : {at to : ℕ} {bs rest : List ℕ} {x : Atom} → AtomIn at bs x to rest → NoLess at bs to
atom_clear (a_char {c = c} h i j r) text = say_clear r (utf8_clear c (other c 60 i)) text
atom_clear (lt_ref r) text = say_clear r (λ e. omega arith, (λ e. omega arith, (λ e. omega arith, (λ e. omega arith, tt)))) text
atom_clear (gt_ref r) text = say_clear r (λ e. omega arith, (λ e. omega arith, (λ e. omega arith, (λ e. omega arith, tt)))) text
atom_clear (amp_ref r) text = say_clear r (λ e. omega arith, (λ e. omega arith, (λ e. omega arith, (λ e. omega arith, (λ e. omega arith, tt))))) text
atom_clear (apos_ref r) text = say_clear r (λ e. omega arith, (λ e. omega arith, (λ e. omega arith, (λ e. omega arith, (λ e. omega arith, (λ e. omega arith, tt)))))) text
atom_clear (quot_ref r) text = say_clear r (λ e. omega arith, (λ e. omega arith, (λ e. omega arith, (λ e. omega arith, (λ e. omega arith, (λ e. omega arith, tt)))))) text

atoms_clear : {at to : ℕ} {bs rest : List ℕ} {xs : List Atom} → AtomsIn at bs xs to rest → NoLess at bs to
atoms_clear no_atom text h k a l z = absurd (omega arith)
atoms_clear (one_atom {mid = mid} a r) text h k b l z =
    by_cases (dec_lt k mid) (λ s. atom_clear a text h k b s z) (λ s. atoms_clear r text ((atom_further a).0.lies text h) k (omega arith) l z)

run_clear : {at to : ℕ} {bs rest : List ℕ} → RunIn at bs to rest → NoLess at bs to
run_clear (a_run r h) = atoms_clear r

-- An element stands from its `<` to past its `>`.
element_stands : {at p to q : ℕ} {bs cs ds name : List ℕ} (text : List ℕ) → drop at text ≡ 60 ∷ bs → NameIn (suc at) bs name p cs → to ≡ suc q → drop q text ≡ 62 ∷ ds
    → ElementStands text name at to
element_stands {at} {q = q} {name = name} text h n e g =
    record {
      opened = subst (λ l. starts (60 ∷ name) l ≡ true) (sym h) (name-start n);
      closed = subst (λ m. RightPast text 62 m) (sym e) (right_past q text g);
    }

-- Where no run comes next, a `<` does, if one follows the row.
less_next : {at to : ℕ} {bs rest : List ℕ} {nodes : Nodes} → RowIn false at bs nodes to rest → (text : List ℕ) → drop at text ≡ bs → get_or text to 0 ≡ 60 → get_or text at 0 ≡ 60
less_next row_ends text h z = z
less_next {at = at} (empty_first n s r) text h z = byte_at at text h
less_next {at = at} (full_first n s i e w r) text h z = byte_at at text h

standing : {fresh : Bool} {at to : ℕ} {bs rest : List ℕ} {nodes : Nodes} → RowIn fresh at bs nodes to rest
    → (text : List ℕ) → drop at text ≡ bs → (fresh ≡ true → RightPast text 62 at) → get_or text to 0 ≡ 60 → Standing text nodes
standing row_ends text h f z = tt
standing (run_first a r) text h f z =
    let more = (run_further a).0.lies text h in
    (record { behind = f refl; clear = run_clear a text h; before = less_next r text more z }, standing r text more (λ e. absurd (false≢true e)) z)
standing {at = at} (empty_first {q = q} n s r) text h f z =
    let slash = (many_further s).lies text ((name_further n).lies text (drop_next at text h)) in
    let bracket = drop_next q text slash in
    (element_stands text h n refl bracket, tt, standing r text (drop_next (suc q) text bracket) (λ e. right_past (suc q) text bracket) z)
standing {at = at} (full_first {q = q} {r = r₁} {t = t} n s i e w r) text h f z =
    let bracket = (many_further s).lies text ((name_further n).lies text (drop_next at text h)) in
    let inner = drop_next q text bracket in
    let tag = (rowed i).moves.lies text inner in
    let last = (many_further w).lies text ((say_further e).lies text (drop_next (suc r₁) text (drop_next r₁ text tag))) in (
      element_stands text h n refl last,
      standing i text inner (λ e. right_past q text bracket) (byte_at r₁ text tag),
      standing r text (drop_next t text last) (λ e. right_past t text last) z,
    )

-- The one element: nothing stands beside it, whatever byte follows.
one_stands : {at to past begin : ℕ} {bs rest name : List ℕ} {inside : Nodes} → RowIn false at bs (element name begin past inside nothing) to rest
    → (text : List ℕ) → drop at text ≡ bs → Standing text (element name begin past inside nothing)
one_stands {at = at} (empty_first {q = q} n s r) text h =
    let slash = (many_further s).lies text ((name_further n).lies text (drop_next at text h)) in
    (element_stands text h n refl (drop_next q text slash), tt, tt)
one_stands {at = at} (full_first {q = q} {r = r₁} {t = t} n s i e w r) text h =
    let bracket = (many_further s).lies text ((name_further n).lies text (drop_next at text h)) in
    let inner = drop_next q text bracket in
    let tag = (rowed i).moves.lies text inner in
    let last = (many_further w).lies text ((say_further e).lies text (drop_next (suc r₁) text (drop_next r₁ text tag))) in
    (element_stands text h n refl last, standing i text inner (λ e. right_past q text bracket) (byte_at r₁ text tag), tt)

derived_stands : {text : List ℕ} {tree : Nodes} → Derives text tree → Standing text tree
derived_stands {text} (Derives.text d s r w) = one_stands r text ((many_further s).lies text ((declaration_further d).lies text refl))

pub tree_stands : TreeStands
tree_stands text tree h = derived_stands ((accepted text tree).0 h)

-- THE TABLE.
pub text_named : (name : List ℕ) → What.text ≡ What.named name → ⊥
text_named name h = let z : ◌≡◌ {A = ℕ} 0 1 = cc in omega arith

pub named_same : {a b : List ℕ} → What.named a ≡ What.named b → a ≡ b
named_same h = cc

module _ (text : List ℕ) (lines : List Row) where
  elements : (nodes : Nodes) (up n : ℕ) → Stand lines n (rows up n nodes) → Standing text nodes
      → (i : ℕ) (name : List ℕ) → n ≤ i → i < n + count nodes → (line_at lines i).what ≡ What.named name → ElementStands text name (line_at lines i).begin (line_at lines i).end
  elements nothing up n h g i word a l w = absurd (omega arith)
  elements (element name begin end inside rest) up n h g i word a l w =
      three n (count inside) (count rest) i a l
      (λ e.
      let line : line_at lines i ≡ row up (What.named name) begin end = ap (line_at lines) e ∙ stand_element lines up n name begin end inside rest h in
      let same : name ≡ word = named_same (sym (ap (λ (r : Row). r.what) line) ∙ w) in
      subst (λ (r : Row). ElementStands text word r.begin r.end) (sym line) (subst (λ x. ElementStands text x begin end) same g.0))
      (λ b m. elements inside n (suc n) (stand_inside lines up n name begin end inside rest h) g.1 i word b m w)
      (λ b m. elements rest up (suc n + count inside) (stand_rest lines up n name begin end inside rest h) g.2 i word b m w)
  elements (chars begin end rest) up n h g i word a l w =
      two n (count rest) i a l (λ e. absurd (text_named word (sym (ap (λ (r : Row). r.what) (ap (line_at lines) e ∙ stand_chars lines up n begin end rest h)) ∙ w)))
      (λ b m. elements rest up (suc n) (stand_behind lines up n begin end rest h) g.1 i word b m w)

  texts : (nodes : Nodes) (up n : ℕ) → Stand lines n (rows up n nodes) → Standing text nodes
      → (i : ℕ) → n ≤ i → i < n + count nodes → (line_at lines i).what ≡ What.text → TextStands text (line_at lines i).begin (line_at lines i).end
  texts nothing up n h g i a l w = absurd (omega arith)
  texts (element name begin end inside rest) up n h g i a l w =
      three n (count inside) (count rest) i a l
      (λ e. absurd (named_text name (sym (ap (λ (r : Row). r.what) (ap (line_at lines) e ∙ stand_element lines up n name begin end inside rest h)) ∙ w)))
      (λ b m. texts inside n (suc n) (stand_inside lines up n name begin end inside rest h) g.1 i b m w)
      (λ b m. texts rest up (suc n + count inside) (stand_rest lines up n name begin end inside rest h) g.2 i b m w)
  texts (chars begin end rest) up n h g i a l w =
      two n (count rest) i a l
      (λ e.
      let line : line_at lines i ≡ row up What.text begin end = ap (line_at lines) e ∙ stand_chars lines up n begin end rest h in
      subst (λ (r : Row). TextStands text r.begin r.end) (sym line) g.0)
      (λ b m. texts rest up (suc n) (stand_behind lines up n begin end rest h) g.1 i b m w)

pub root_named : (name : List ℕ) → What.root ≡ What.named name → ⊥
root_named name h = let z : ◌≡◌ {A = ℕ} 0 1 = cc in omega arith

pub elements_stand : ElementsStand
elements_stand text tree h zero name l w = absurd (root_named name w)
elements_stand text tree h (suc i) name l w =
    elements text (table (length text) tree) tree 0 1 (stand_table (length text) tree) (tree_stands text tree h) (suc i) name (omega arith)
    (omega (arith, length_table (length text) tree)) w

pub texts_stand : TextsStand
texts_stand text tree h zero l w = absurd (root_text w)
texts_stand text tree h (suc i) l w =
    texts text (table (length text) tree) tree 0 1 (stand_table (length text) tree) (tree_stands text tree h) (suc i) (omega arith)
    (omega (arith, length_table (length text) tree)) w
