-- The lines of a list start within it and are no longer than it, so a bad line has its place there and a name has so many bytes at most. By induction over the bytes. Assumes nothing.
use Prim.Native.Nat.{ℕ, zero, suc, ◌+◌, ◌≤◌}
use native.Mathlib.Omega.{arith}
use mathlib.Core.Path.{◌≡◌, subst}
use mathlib.Core.List.{List, [], ◌∷◌, map}
use mathlib.Core.Option.{some}
use lib.Dec.{eqb}
use lib.ListN.{length, get_or}
use Rattle.paper.specs.Names.{Line, grown, lines_from, bad_line, first_bad, names_fault, names_of}
use Rattle.paper.proofs.Tests.{none-some, some_inj}
use Rattle.query_grammar.proofs.Seeing.{chosen}
use Rattle.query_grammar.proofs.Accepted.{either_way}

-- Every line starts at `last` or before it and has at most so many bytes.
abbrev Lie : ℕ → ℕ → List Line → Type 0
Lie last most [] = Unit {0}
Lie last most (l ∷ ls) = (l.start ≤ last) × (length l.says ≤ most) × Lie last most ls

longer : (last most : ℕ) (ls : List Line) → Lie last most ls → Lie last (suc most) ls
longer last most [] h = tt
longer last most (l ∷ ls) h = (h.0, omega (arith, h.1), longer last most ls h.2)

-- A byte put before the first line.
grown_lie : (last most at b : ℕ) (ls : List Line) → at ≤ last → Lie last most ls → Lie last (suc most) (grown at b ls)
grown_lie last most at b [] l h = (l, omega arith, tt)
grown_lie last most at b (x ∷ ls) l h = (l, omega (arith, h.1), longer last most ls h.2)

lines_lie : (last at : ℕ) (bs : List ℕ) → at + length bs ≤ last → Lie last (length bs) (lines_from at bs)
lines_lie last at [] l = tt
lines_lie last at (b ∷ bs) l =
    let later = lines_lie last (suc at) bs (omega arith) in
    either_way (Lie last (suc (length bs))) (eqb b 10) (omega arith, omega arith, longer last (length bs) (lines_from (suc at) bs) later)
    (grown_lie last (length bs) at b (lines_from (suc at) bs) (omega arith) later)

bad_lies : (last most : ℕ) (earlier : List (List ℕ)) (ls : List Line) → Lie last most ls → (place : ℕ) → first_bad earlier ls ≡ some place → place ≤ last
bad_lies last most earlier [] h place e = none-some e
bad_lies last most earlier (l ∷ ls) h place e =
    chosen (bad_line earlier l) e (λ c f. subst (λ p. p ≤ last) (some_inj f) h.0) (λ c f. bad_lies last most (l.says ∷ earlier) ls h.2 place f)

-- A BAD LINE STARTS WITHIN THE LIST.
pub fault_within : (list : List ℕ) (place : ℕ) → names_fault list ≡ some place → place ≤ length list
unfolding names_fault
fault_within list place h = bad_lies (length list) (length list) [] (lines_from 0 list) (lines_lie (length list) 0 list (omega arith)) place h

says_short : (last most : ℕ) (ls : List Line) → Lie last most ls → (v : ℕ) → length (get_or (map (λ (l : Line). l.says) ls) v []) ≤ most
says_short last most [] h v = omega arith
says_short last most (l ∷ ls) h zero = h.1
says_short last most (l ∷ ls) h (suc v) = says_short last most ls h.2 v

-- A NAME IS NO LONGER THAN THE LIST.
pub name_short : (list : List ℕ) (v : ℕ) → length (get_or (names_of list) v []) ≤ length list
unfolding names_of
name_short list v = says_short (length list) (length list) (lines_from 0 list) (lines_lie (length list) 0 list (omega arith)) v
