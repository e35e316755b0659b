-- A list without fault has at most 256 names: a line past these is bad. By induction over the lines. Assumes nothing.
use Prim.Native.Nat.{ℕ, suc, ◌+◌, ◌≤◌}
use native.Mathlib.Omega.{arith}
use mathlib.Core.Path.{◌≡◌, refl, ap, ◌∙◌}
use mathlib.Core.Bool.{Bool, true, false, not, ◌||◌, cond}
use mathlib.Core.List.{List, [], ◌∷◌}
use mathlib.Core.Option.{Option, none, some}
use lib.Dec.{leb, ltb}
use lib.ListN.{length, length-map}
use borrow.Author.Tests.{leb-false}
use Rattle.paper.specs.Tools.{same, some_of}
use Rattle.paper.specs.Limits.{name_limit, names_limit}
use Rattle.paper.specs.Names.{Line, lines_from, is_name, bad_line, first_bad, names_fault, names_of}
use Rattle.paper.proofs.Refusing.{or_none}

-- A line that is not bad has fewer before it.
fine_few : (earlier : List (List ℕ)) (l : Line) → bad_line earlier l ≡ false → suc (length earlier) ≤ names_limit
unfolding bad_line
fine_few earlier l h =
    let early = not (is_name l.says) || ltb name_limit (length l.says) || not l.ended in
    let repeats = some_of (same l.says) earlier in
    let few = (or_none early (leb names_limit (length earlier)) (or_none (early || leb names_limit (length earlier)) repeats h).0).1 in
    leb-false names_limit (length earlier) few

lines_few : (earlier : List (List ℕ)) (ls : List Line) → length earlier ≤ names_limit → first_bad earlier ls ≡ none → length earlier + length ls ≤ names_limit
lines_few earlier [] l h = omega arith
lines_few earlier (line ∷ ls) l h = go (bad_line earlier line) refl (λ more f. lines_few (line.says ∷ earlier) ls more f) h
  where
    go : (b : Bool) → bad_line earlier line ≡ b → (suc (length earlier) ≤ names_limit → first_bad (line.says ∷ earlier) ls ≡ none → suc (length earlier) + length ls ≤ names_limit)
        → cond b (some line.start) (first_bad (line.says ∷ earlier) ls) ≡ none → length earlier + suc (length ls) ≤ names_limit
    go true e rest f = absurd (let z : ◌≡◌ {A = ℕ} 0 1 = cc in omega arith)
    go false e rest f = omega (arith, rest (fine_few earlier line e) f)

pub names_few : (list : List ℕ) → names_fault list ≡ none → length (names_of list) ≤ names_limit
unfolding names_fault names_of
names_few list h = omega (arith, length-map (lines_from 0 list) (λ l. l.says), lines_few [] (lines_from 0 list) (omega arith) h)
