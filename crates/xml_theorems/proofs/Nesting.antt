-- The nodes of a derived text nest within the text, and no two texts stand side by side.
-- Each production goes on from its place by the bytes that it takes. Assumes nothing.
use Prim.Native.Nat.{ℕ, zero, suc, ◌+◌, ◌/◌, ◌%◌, ◌<◌, ◌≤◌}
use native.Mathlib.Omega.{arith}
use mathlib.Core.Path.{◌≡◌, refl, ◌∙◌, ap, subst}
use mathlib.Core.Bool.{Bool, true, false, cond}
use mathlib.Core.List.{List, [], ◌∷◌}
use lib.Dec.{ltb}
use lib.ListN.{length, drop}
use Rattle.paper.specs.Xml.{Nodes, nothing, element, chars}
use Rattle.xml_grammar.specs.Productions.{SayIn, said, saying, ManyIn, no_more, one_more, SomeIn, at_least, PartsIn, name_ends, name_goes_on, NameIn, name-starts}
use Rattle.xml_grammar.specs.Productions.{utf8, Atom, AtomIn, a_char, lt_ref, gt_ref, amp_ref, apos_ref, quot_ref, AtomsIn, no_atom, one_atom, RunIn, a_run}
use Rattle.xml_grammar.specs.Productions.{RowIn, row_ends, run_first, empty_first, full_first, equals, GivenIn, gives, VersionIn, version}
use Rattle.xml_grammar.specs.Productions.{EncodingIn, encoded, not_encoded, StandaloneIn, alone_yes, alone_no, not_alone, DeclarationIn, declared, not_declared, Derives}
use Rattle.xml_theorems.specs.Tables.{Nested, Spaced, TreeNests, TreeSpaced}
use Rattle.xml_verdicts.proofs.Accepted.{accepted}

-- The bytes from the next place on.
drop_one : (at : ℕ) (text : List ℕ) → drop (suc at) text ≡ drop 1 (drop at text)
drop_one zero text = refl
drop_one (suc at) [] = refl
drop_one (suc at) (b ∷ text) = drop_one at text

pub drop_next : {b : ℕ} {bs : List ℕ} (at : ℕ) (text : List ℕ) → drop at text ≡ b ∷ bs → drop (suc at) text ≡ bs
drop_next at text h = drop_one at text ∙ ap (drop 1) h

-- From the bytes at a place to those at another, which are further on in the text.
pub record Further (at : ℕ) (bs : List ℕ) (to : ℕ) (rest : List ℕ) : Type 0 where
  pub onward : at ≤ to
  pub level : at + length bs ≡ to + length rest
  pub lies : (text : List ℕ) → drop at text ≡ bs → drop to text ≡ rest

-- No byte, one after the other, a byte before and a byte behind.
no_further : {at : ℕ} {bs : List ℕ} → Further at bs at bs
no_further = record { onward = omega arith; level = refl; lies = λ text h. h }

pub then_further : {at mid to : ℕ} {bs cs rest : List ℕ} → Further at bs mid cs → Further mid cs to rest → Further at bs to rest
then_further f g = record { onward = omega (arith, f.onward, g.onward); level = omega (arith, f.level, g.level); lies = λ text h. g.lies text (f.lies text h) }

byte_further : {at to b : ℕ} {bs rest : List ℕ} → Further (suc at) bs to rest → Further at (b ∷ bs) to rest
byte_further {at} f = record { onward = omega (arith, f.onward); level = omega (arith, f.level); lies = λ text h. f.lies text (drop_next at text h) }

pub past_byte : {at to b : ℕ} {bs rest : List ℕ} → Further at bs to (b ∷ rest) → Further at bs (suc to) rest
past_byte {to = to} f = record { onward = omega (arith, f.onward); level = omega (arith, f.level); lies = λ text h. drop_next to text (f.lies text h) }

pub say_further : {ws bs rest : List ℕ} {at to : ℕ} → SayIn ws at bs to rest → Further at bs to rest
say_further said = no_further
say_further (saying r) = byte_further (say_further r)

pub many_further : {set : ℕ → Bool} {bs rest : List ℕ} {at to : ℕ} → ManyIn set at bs to rest → Further at bs to rest
many_further no_more = no_further
many_further (one_more h r) = byte_further (many_further r)

parts_further : {name bs rest : List ℕ} {at to : ℕ} → PartsIn at bs name to rest → Further at bs to rest
parts_further name_ends = no_further
parts_further (name_goes_on h r) = byte_further (parts_further r)

some_further : {set : ℕ → Bool} {bs rest : List ℕ} {at to : ℕ} → SomeIn set at bs to rest → Further at bs to rest
some_further (at_least h r) = byte_further (many_further r)

pub name_further : {name bs rest : List ℕ} {at to : ℕ} → NameIn at bs name to rest → Further at bs to rest
name_further (name-starts h r) = byte_further (parts_further r)

-- Words take as many bytes as they have.
say_length : {ws bs rest : List ℕ} {at to : ℕ} → SayIn ws at bs to rest → to ≡ at + length ws
say_length said = omega arith
say_length (saying r) = omega (arith, say_length r)

utf8_some : (c : ℕ) → 0 < length (utf8 c)
utf8_some c = go (ltb c 128) (ltb c 2048) (ltb c 65536)
  where
    go : (x y z : Bool)
        → 0 < length
        (cond x (c ∷ [])
        (cond y ((192 + c / 64) ∷ (128 + c % 64) ∷ [])
        (cond z ((224 + c / 4096) ∷ (128 + c / 64 % 64) ∷ (128 + c % 64) ∷ [])
        ((240 + c / 262144) ∷ (128 + c / 4096 % 64) ∷ (128 + c / 64 % 64) ∷ (128 + c % 64) ∷ []))))
    go true y z = omega arith
    go false true z = omega arith
    go false false true = omega arith
    go false false false = omega arith

-- A character or a reference takes at least a byte.
pub atom_further : {at to : ℕ} {bs rest : List ℕ} {x : Atom} → AtomIn at bs x to rest → Further at bs to rest × (at < to)
atom_further (a_char {c = c} h i j r) = (say_further r, omega (arith, say_length r, utf8_some c))
atom_further (lt_ref r) = (say_further r, omega (arith, say_length r))
atom_further (gt_ref r) = (say_further r, omega (arith, say_length r))
atom_further (amp_ref r) = (say_further r, omega (arith, say_length r))
atom_further (apos_ref r) = (say_further r, omega (arith, say_length r))
atom_further (quot_ref r) = (say_further r, omega (arith, say_length r))

atoms_further : {at to : ℕ} {bs rest : List ℕ} {xs : List Atom} → AtomsIn at bs xs to rest → Further at bs to rest
atoms_further no_atom = no_further
atoms_further (one_atom a r) = then_further (atom_further a).0 (atoms_further r)

pub run_further : {at to : ℕ} {bs rest : List ℕ} → RunIn at bs to rest → Further at bs to rest × (at < to)
run_further (a_run (one_atom a r) h) =
    let f = atom_further a in
    let g = atoms_further r in
    (then_further f.0 g, omega (arith, f.1, g.onward))

-- What nests between two places nests between places further apart.
widened : (nodes : Nodes) (low from high to : ℕ) → low ≤ from → high ≤ to → Nested from high nodes → Nested low to nodes
widened nothing low from high to l m h = omega (arith, h)
widened (element name begin end inside rest) low from high to l m h = (omega (arith, h.0), h.1, h.2, widened rest end end high to (omega arith) m h.3)
widened (chars begin end rest) low from high to l m h = (omega (arith, h.0), h.1, widened rest end end high to (omega arith) m h.2)

-- What is said of a row of nodes that is derived.
pub record Rowed (fresh : Bool) (at : ℕ) (bs : List ℕ) (nodes : Nodes) (to : ℕ) (rest : List ℕ) : Type 0 where
  pub moves : Further at bs to rest
  pub nests : Nested at to nodes
  pub spaced : Spaced fresh nodes

pub rowed : {fresh : Bool} {at to : ℕ} {bs rest : List ℕ} {nodes : Nodes} → RowIn fresh at bs nodes to rest → Rowed fresh at bs nodes to rest
rowed row_ends = record { moves = no_further; nests = omega arith; spaced = tt }
rowed (run_first a r) =
    let f = run_further a in
    let g = rowed r in
    record { moves = then_further f.0 g.moves; nests = (omega arith, f.1, g.nests); spaced = (refl, g.spaced) }
rowed (empty_first n s r) =
    let f = then_further (name_further n) (many_further s) in
    let g = rowed r in
    record {
      moves = byte_further (then_further (past_byte (past_byte f)) g.moves);
      nests = (omega arith, omega (arith, f.onward), omega (arith, f.onward), g.nests);
      spaced = (tt, g.spaced);
    }
rowed (full_first {at = at} {q = q} {r = r₁} {t = t} {inside = inside} n s i e w r) =
    let f = then_further (name_further n) (many_further s) in
    let within = rowed i in
    let tag = then_further (say_further e) (many_further w) in
    let g = rowed r in
    record {
      moves = byte_further (then_further (past_byte f) (then_further (past_byte (past_byte within.moves)) (then_further (past_byte tag) g.moves)));
      nests = (
        omega arith,
        omega (arith, f.onward, within.moves.onward, tag.onward),
        widened inside (suc at) (suc q) r₁ (suc t) (omega (arith, f.onward)) (omega (arith, tag.onward)) within.nests,
        g.nests,
      );
      spaced = (within.spaced, g.spaced);
    }

-- The declaration.
given_further : {word : List ℕ} {quote at to : ℕ} {bs rest : List ℕ} → GivenIn word quote at bs to rest → Further at bs to rest
given_further (gives s w (equals a b) q) =
    then_further (some_further s) (then_further (say_further w) (then_further (past_byte (many_further a)) (past_byte (many_further b))))

version_further : {at to : ℕ} {bs rest : List ℕ} → VersionIn at bs to rest → Further at bs to rest
version_further (version g s d) = then_further (given_further g) (then_further (say_further s) (past_byte (some_further d)))

encoding_further : {at to : ℕ} {bs rest : List ℕ} → EncodingIn at bs to rest → Further at bs to rest
encoding_further {at} {bs = bs} {rest = rest} (encoded {p = p} g u t f) =
    let six : suc (suc (suc (suc (suc (suc p))))) ≡ 6 + p = omega arith in
    subst (λ m. Further at bs m rest) six (past_byte (past_byte (past_byte (past_byte (past_byte (past_byte (given_further g)))))))
encoding_further not_encoded = no_further

standalone_further : {at to : ℕ} {bs rest : List ℕ} → StandaloneIn at bs to rest → Further at bs to rest
standalone_further (alone_yes g s) = then_further (given_further g) (past_byte (say_further s))
standalone_further (alone_no g s) = then_further (given_further g) (past_byte (say_further s))
standalone_further not_alone = no_further

pub declaration_further : {to : ℕ} {bs rest : List ℕ} → DeclarationIn bs to rest → Further 0 bs to rest
declaration_further (declared s v e a w t) =
    then_further (say_further s)
    (then_further (version_further v) (then_further (encoding_further e) (then_further (standalone_further a) (then_further (many_further w) (say_further t)))))
declaration_further not_declared = no_further

derived_nests : {text : List ℕ} {tree : Nodes} → Derives text tree → Nested 0 (length text) tree × Spaced false tree
derived_nests {tree = tree} (Derives.text {q = q} {r = r₁} {bs = bs} d s r w) =
    let f = then_further (declaration_further d) (many_further s) in
    let g = rowed r in
    let h = many_further w in
    (widened tree 0 q r₁ (length bs) (omega arith) (omega (arith, f.level, g.moves.level, h.onward, h.level)) g.nests, g.spaced)

pub tree_nests : TreeNests
tree_nests text tree h = (derived_nests ((accepted text tree).0 h)).0

pub tree_spaced : TreeSpaced
tree_spaced text tree h = (derived_nests ((accepted text tree).0 h)).1
