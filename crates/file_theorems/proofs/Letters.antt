-- Characters and references apart from their places, and what escaping makes of a row of them: a row again, in which `]]>` stands nowhere.
-- Only `>` and `]` are looked at, and both are characters of one byte; so counting `]` by bytes and by characters is the same. Assumes nothing.
use Prim.Native.Nat.{ℕ, suc, ◌+◌, ◌/◌, ◌%◌, ◌≤◌}
use native.Mathlib.Omega.{arith}
use mathlib.Core.Path.{◌≡◌, refl, sym, ◌∙◌, ap, subst}
use mathlib.Core.Bool.{Bool, true, false, not, ◌&&◌}
use mathlib.Core.List.{List, [], ◌∷◌, ◌++◌, append_assoc}
use mathlib.Core.Logic.{⊎_elim}
use lib.Dec.{eqb, ltb}
use borrow.Author.Tests.{eqb-true, ne_eqb, ltb-false}
use Rattle.paper.specs.Tools.{ascii}
use Rattle.paper.specs.WriteXml.{squares_by, squares_past, escaped}
use Rattle.paper.proofs.Tests.{and_true, true_and, decide}
use Rattle.xml_grammar.specs.Productions.{SayIn, said, saying, is_char, utf8, Atom, char, reference, AtomIn, a_char, lt_ref, gt_ref, amp_ref, apos_ref, quot_ref, AtomsIn, no_atom, one_atom, is_the}
use Rattle.xml_grammar.proofs.Squares.{more, fine, counted}

-- WORDS, at any place.
say_splits : {ws bs rest : List ℕ} {at to : ℕ} → SayIn ws at bs to rest → bs ≡ ws ++ rest
say_splits said = refl
say_splits (saying {b = b} r) = ap (λ (l : List ℕ). b ∷ l) (say_splits r)

pub say_again : (ws : List ℕ) (at : ℕ) (rest : List ℕ) → (to : ℕ) × SayIn ws at (ws ++ rest) to rest
say_again [] at rest = (at, said)
say_again (w ∷ ws) at rest = let (to, s) = say_again ws (suc at) rest in (to, saying s)

-- CHARACTERS AND REFERENCES, with their bytes.
pub data Letters : List ℕ → Atom → Type 0 where
  letters : {c : ℕ} → is_char c ≡ true → eqb c 60 ≡ false → eqb c 38 ≡ false → Letters (utf8 c) (char c)
  lt_letters : Letters (ascii "&lt;") reference
  gt_letters : Letters (ascii "&gt;") reference
  amp_letters : Letters (ascii "&amp;") reference
  apos_letters : Letters (ascii "&apos;") reference
  quot_letters : Letters (ascii "&quot;") reference

atom_letters : {at to : ℕ} {bs rest : List ℕ} {x : Atom} → AtomIn at bs x to rest → (ws : List ℕ) × Letters ws x × (bs ≡ ws ++ rest)
atom_letters (a_char {c = c} h i j r) = (utf8 c, letters h i j, say_splits r)
atom_letters (lt_ref r) = (ascii "&lt;", lt_letters, say_splits r)
atom_letters (gt_ref r) = (ascii "&gt;", gt_letters, say_splits r)
atom_letters (amp_ref r) = (ascii "&amp;", amp_letters, say_splits r)
atom_letters (apos_ref r) = (ascii "&apos;", apos_letters, say_splits r)
atom_letters (quot_ref r) = (ascii "&quot;", quot_letters, say_splits r)

letters_atom : {ws : List ℕ} {x : Atom} → Letters ws x → (at : ℕ) (rest : List ℕ) → (to : ℕ) × AtomIn at (ws ++ rest) x to rest
letters_atom (letters {c = c} h i j) at rest = let (to, s) = say_again (utf8 c) at rest in (to, a_char h i j s)
letters_atom lt_letters at rest = let (to, s) = say_again (ascii "&lt;") at rest in (to, lt_ref s)
letters_atom gt_letters at rest = let (to, s) = say_again (ascii "&gt;") at rest in (to, gt_ref s)
letters_atom amp_letters at rest = let (to, s) = say_again (ascii "&amp;") at rest in (to, amp_ref s)
letters_atom apos_letters at rest = let (to, s) = say_again (ascii "&apos;") at rest in (to, apos_ref s)
letters_atom quot_letters at rest = let (to, s) = say_again (ascii "&quot;") at rest in (to, quot_ref s)

-- A row of them.
pub data Spelt : List ℕ → List Atom → Type 0 where
  spelt : Spelt [] []
  spelling : {ws vs : List ℕ} {x : Atom} {xs : List Atom} → Letters ws x → Spelt vs xs → Spelt (ws ++ vs) (x ∷ xs)

pub atoms_spelt : {at to : ℕ} {bs rest : List ℕ} {xs : List Atom} → AtomsIn at bs xs to rest → (ws : List ℕ) × Spelt ws xs × (bs ≡ ws ++ rest)
atoms_spelt no_atom = ([], spelt, refl)
atoms_spelt {rest = rest} (one_atom a r) =
    let (ws, l, e) = atom_letters a in
    let (vs, s, f) = atoms_spelt r in
    (ws ++ vs, spelling l s, e ∙ ap (λ (z : List ℕ). ws ++ z) f ∙ sym (append_assoc ws vs rest))

-- They stand before others, at any place.
pub spelt_before : {ws : List ℕ} {xs : List Atom} → Spelt ws xs → (at : ℕ) (bs : List ℕ)
    → (mid : ℕ) × ((ys : List Atom) (to : ℕ) (rest : List ℕ) → AtomsIn mid bs ys to rest → AtomsIn at (ws ++ bs) (xs ++ ys) to rest)
spelt_before spelt at bs = (at, λ ys to rest a. a)
spelt_before (spelling {ws = ws} {vs = vs} {x = x} {xs = xs} l s) at bs =
    let (p, a) = letters_atom l at (vs ++ bs) in
    let (mid, next) = spelt_before s p bs in
    (mid, λ ys to rest r. subst (λ (z : List ℕ). AtomsIn at z (x ∷ xs ++ ys) to rest) (sym (append_assoc ws vs bs)) (one_atom a (next ys to rest r)))

-- ESCAPING.

-- No `>` and no `]`.
abbrev Dull : List ℕ → Type 0
Dull [] = Unit
Dull (b ∷ bs) = (eqb b 62 ≡ false) × (eqb b 93 ≡ false) × Dull bs

dull_escaped : (ws : List ℕ) (b k : ℕ) (tail : List ℕ) → Dull (b ∷ ws) → escaped k (b ∷ ws ++ tail) ≡ b ∷ ws ++ escaped 0 tail
dull_escaped [] b k tail d = let (x, y, z) = d in rw (x, y)
dull_escaped (c ∷ ws) b k tail d = let (x, y, z) = d in rw (x, y) (ap (λ (l : List ℕ). b ∷ l) (dull_escaped ws c 0 tail z))

no_square : (b k : ℕ) → eqb b 93 ≡ false → squares_by k b ≡ 0
no_square b k h = rw h

dull_past : (ws : List ℕ) (b k : ℕ) (tail : List ℕ) → Dull (b ∷ ws) → squares_past k (b ∷ ws ++ tail) ≡ squares_past 0 tail
dull_past [] b k tail d = ap (λ n. squares_past n tail) (no_square b k d.1)
dull_past (c ∷ ws) b k tail d = ap (λ n. squares_past n (c ∷ ws ++ tail)) (no_square b k d.1) ∙ dull_past ws c 0 tail d.2

-- What becomes of a character or a reference behind k `]`.
record Put (k : ℕ) (ws : List ℕ) (x : Atom) : Type 0 where
  bytes : List ℕ
  atom : Atom
  is : Letters bytes atom
  put : (tail : List ℕ) → escaped k (ws ++ tail) ≡ bytes ++ escaped (more k x) tail
  past : (tail : List ℕ) → squares_past k (ws ++ tail) ≡ squares_past (more k x) tail
  allowed : (is_the 62 atom && eqb k 2) ≡ false
  ends : more k atom ≡ more k x

-- A character of several bytes has none of the two.
dull_wide : (c : ℕ) → ltb c 128 ≡ false → (b : ℕ) × (ws : List ℕ) × (utf8 c ≡ b ∷ ws) × Dull (b ∷ ws)
dull_wide c u = go (ltb c 2048) refl (ltb c 65536) refl
  where
    high : (b : ℕ) → 128 ≤ b → (eqb b 62 ≡ false) × (eqb b 93 ≡ false)
    high b h = (ne_eqb b 62 (λ e. omega arith), ne_eqb b 93 (λ e. omega arith))

    go : (y : Bool) → ltb c 2048 ≡ y → (z : Bool) → ltb c 65536 ≡ z → (b : ℕ) × (ws : List ℕ) × (utf8 c ≡ b ∷ ws) × Dull (b ∷ ws)
    go true p z q =
        let a = high (192 + c / 64) (omega arith) in
        let d = high (128 + c % 64) (omega arith) in
        (192 + c / 64, (128 + c % 64) ∷ [], rw (u, p), (a.0, a.1, (d.0, d.1, tt)))
    go false p true q =
        let a = high (224 + c / 4096) (omega arith) in
        let d = high (128 + c / 64 % 64) (omega arith) in
        let e = high (128 + c % 64) (omega arith) in
        (224 + c / 4096, (128 + c / 64 % 64) ∷ (128 + c % 64) ∷ [], rw (u, p, q), (a.0, a.1, (d.0, d.1, (e.0, e.1, tt))))
    go false p false q =
        let a = high (240 + c / 262144) (omega arith) in
        let d = high (128 + c / 4096 % 64) (omega arith) in
        let e = high (128 + c / 64 % 64) (omega arith) in
        let f = high (128 + c % 64) (omega arith) in
        (240 + c / 262144, (128 + c / 4096 % 64) ∷ (128 + c / 64 % 64) ∷ (128 + c % 64) ∷ [], rw (u, p, q), (a.0, a.1, (d.0, d.1, (e.0, e.1, (f.0, f.1, tt)))))

wide_put : (k c : ℕ) → is_char c ≡ true → eqb c 60 ≡ false → eqb c 38 ≡ false → ltb c 128 ≡ false → Put k (utf8 c) (char c)
wide_put k c h i j u =
    let l = ltb-false c 128 u in
    let square : eqb c 93 ≡ false = ne_eqb c 93 (λ e. omega arith) in
    let angle : eqb c 62 ≡ false = ne_eqb c 62 (λ e. omega arith) in
    let none : more k (char c) ≡ 0 = rw square in
    let (b, ws, e, d) = dull_wide c u in
    record {
      bytes = utf8 c;
      atom = char c;
      is = letters h i j;
      put =
          λ tail.
          ap (λ (w : List ℕ). escaped k (w ++ tail)) e ∙ dull_escaped ws b k tail d
          ∙ ap (λ (w : List ℕ). w ++ escaped 0 tail) (sym e) ∙ ap (λ n. utf8 c ++ escaped n tail) (sym none);
      past = λ tail. ap (λ (w : List ℕ). squares_past k (w ++ tail)) e ∙ dull_past ws b k tail d ∙ ap (λ n. squares_past n tail) (sym none);
      allowed = rw angle;
      ends = refl;
    }

-- A character of one byte stays too, but a `>` behind two `]` becomes a reference.
plain_put : (k c : ℕ) → is_char c ≡ true → eqb c 60 ≡ false → eqb c 38 ≡ false → utf8 c ≡ c ∷ [] → Put k (c ∷ []) (char c)
plain_put k c h i j e = go (eqb c 62 && eqb k 2) refl
  where
    stays : Letters (c ∷ []) (char c)
    stays = subst (λ (w : List ℕ). Letters w (char c)) e (letters h i j)

    go : (x : Bool) → (eqb c 62 && eqb k 2) ≡ x → Put k (c ∷ []) (char c)
    go true p =
        let angle : eqb c 62 ≡ true = (and_true (eqb c 62) (eqb k 2) p).0 in
        let square : eqb c 93 ≡ false = ap (λ n. eqb n 93) (eqb-true c 62 angle) in
        record {
          bytes = ascii "&gt;";
          atom = reference;
          is = gt_letters;
          put = λ tail. rw (p, square);
          past = λ tail. refl;
          allowed = refl;
          ends = rw square;
        }
    go false p = record { bytes = c ∷ []; atom = char c; is = stays; put = λ tail. rw p; past = λ tail. refl; allowed = p; ends = refl }

letters_put : {ws : List ℕ} {x : Atom} → Letters ws x → (k : ℕ) → Put k ws x
letters_put (letters {c = c} h i j) k =
    ⊎_elim
    (λ (u : ltb c 128 ≡ true). let e : utf8 c ≡ c ∷ [] = rw u in subst (λ (w : List ℕ). Put k w (char c)) (sym e) (plain_put k c h i j e))
    (λ (u : ltb c 128 ≡ false). wide_put k c h i j u)
    (decide (ltb c 128))
letters_put lt_letters k = record { bytes = ascii "&lt;"; atom = reference; is = lt_letters; put = λ tail. refl; past = λ tail. refl; allowed = refl; ends = refl }
letters_put gt_letters k = record { bytes = ascii "&gt;"; atom = reference; is = gt_letters; put = λ tail. refl; past = λ tail. refl; allowed = refl; ends = refl }
letters_put amp_letters k = record { bytes = ascii "&amp;"; atom = reference; is = amp_letters; put = λ tail. refl; past = λ tail. refl; allowed = refl; ends = refl }
letters_put apos_letters k = record { bytes = ascii "&apos;"; atom = reference; is = apos_letters; put = λ tail. refl; past = λ tail. refl; allowed = refl; ends = refl }
letters_put quot_letters k = record { bytes = ascii "&quot;"; atom = reference; is = quot_letters; put = λ tail. refl; past = λ tail. refl; allowed = refl; ends = refl }

-- A ROW behind k `]` is escaped to a row that may stand there, and leaves as many `]` as are counted.
pub record Puts (k : ℕ) (ws : List ℕ) (atoms : List Atom) : Type 0 where
  pub is : Spelt (escaped k ws) atoms
  pub may : fine k atoms ≡ true
  pub leaves : counted k atoms ≡ squares_past k ws

one_more : {ws vs : List ℕ} {k : ℕ} {x : Atom} {ys : List Atom} → (p : Put k ws x) → Puts (more k x) vs ys → Puts k (ws ++ vs) (p.atom ∷ ys)
one_more {vs = vs} {ys = ys} p q =
    record {
      is = subst (λ (w : List ℕ). Spelt w (p.atom ∷ ys)) (sym (p.put vs)) (spelling p.is q.is);
      may = true_and (ap not p.allowed) (ap (λ n. fine n ys) p.ends ∙ q.may);
      leaves = ap (λ n. counted n ys) p.ends ∙ q.leaves ∙ sym (p.past vs);
    }

spelt_put : {ws : List ℕ} {xs : List Atom} → Spelt ws xs → (k : ℕ) → (ys : List Atom) × Puts k ws ys
spelt_put spelt k = ([], record { is = spelt; may = refl; leaves = refl })
spelt_put (spelling {x = x} l s) k =
    let p = letters_put l k in
    let (ys, q) = spelt_put s (more k x) in
    (p.atom ∷ ys, one_more p q)

-- Of one at least, one at least is left.
pub some_put : {ws : List ℕ} {x : Atom} {xs : List Atom} → Spelt ws (x ∷ xs) → (k : ℕ) → (y : Atom) × (ys : List Atom) × Puts k ws (y ∷ ys)
some_put (spelling {x = x} l s) k =
    let p = letters_put l k in
    let (ys, q) = spelt_put s (more k x) in
    (p.atom, ys, one_more p q)

-- Rows one after the other.
pub fine_then : (xs ys : List Atom) (k : ℕ) → fine k xs ≡ true → fine (counted k xs) ys ≡ true → fine k (xs ++ ys) ≡ true
fine_then [] ys k h i = i
fine_then (x ∷ xs) ys k h i =
    let (u, v) = and_true (not (is_the 62 x && eqb k 2)) (fine (more k x) xs) h in
    true_and u (fine_then xs ys (more k x) v i)

-- Bytes one after the other.
pub escaped_then : (ws vs : List ℕ) (k : ℕ) → escaped k (ws ++ vs) ≡ escaped k ws ++ escaped (squares_past k ws) vs
escaped_then [] vs k = refl
escaped_then (b ∷ ws) vs k = go (eqb b 62 && eqb k 2) refl (λ n. escaped_then ws vs n)
  where
    go : (x : Bool) → (eqb b 62 && eqb k 2) ≡ x → ((n : ℕ) → escaped n (ws ++ vs) ≡ escaped n ws ++ escaped (squares_past n ws) vs)
        → escaped k (b ∷ ws ++ vs) ≡ escaped k (b ∷ ws) ++ escaped (squares_past k (b ∷ ws)) vs
    go true p h =
        let none : squares_by k b ≡ 0 = no_square b k (ap (λ n. eqb n 93) (eqb-true b 62 (and_true (eqb b 62) (eqb k 2) p).0)) in
        rw p (ap (λ (l : List ℕ). ascii "&gt;" ++ l) (h 0 ∙ ap (λ n. escaped 0 ws ++ escaped (squares_past n ws) vs) (sym none)))
    go false p h = rw p (ap (λ (l : List ℕ). b ∷ l) (h (squares_by k b)))
