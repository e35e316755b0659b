-- The lines of the views, from the first on: a line is what stands before the first LF, and the views after it are those of the bytes after it. By induction over the bytes. Assumes nothing.
use Prim.Native.Nat.{ℕ, suc, ◌-◌}
use mathlib.Core.Path.{◌≡◌, refl, sym}
use mathlib.Core.Bool.{Bool, true, false, cond}
use mathlib.Core.List.{List, [], ◌∷◌, map}
use lib.Dec.{eqb}
use lib.ListN.{length, take, drop, length-drop}
use lib.Seq.{take-length}
use Rattle.paper.specs.Names.{Line, grown, lines_from}
use Rattle.paper.specs.Program.{first_line, after_line}
use Rattle.paper.specs.Roles.{views_of}

-- What lines say with a byte put before the first.
abbrev grown_said : ℕ → List (List ℕ) → List (List ℕ)
grown_said b [] = (b ∷ []) ∷ []
grown_said b (s ∷ ss) = (b ∷ s) ∷ ss

-- What the lines of bytes say, wherever they start.
abbrev pub said : List ℕ → List (List ℕ)
said [] = []
said (b ∷ bs) = let later = said bs in cond (eqb b 10) ([] ∷ later) (grown_said b later)

grown-said : (at b : ℕ) (ls : List Line) → map (λ l. l.says) (grown at b ls) ≡ grown_said b (map (λ l. l.says) ls)
grown-said at b [] = refl
grown-said at b (l ∷ ls) = refl

from_said : (at : ℕ) (bs : List ℕ) → map (λ l. l.says) (lines_from at bs) ≡ said bs
from_said at [] = refl
from_said at (b ∷ bs) = go (eqb b 10) refl (from_said (suc at) bs)
  where
    go : (t : Bool) → eqb b 10 ≡ t → map (λ l. l.says) (lines_from (suc at) bs) ≡ said bs → map (λ l. l.says) (lines_from at (b ∷ bs)) ≡ said (b ∷ bs)
    go true p later = rw (p, later)
    go false p later = rw (p, grown-said at b (lines_from (suc at) bs), later)

pub views_are : (bytes : List ℕ) → views_of bytes ≡ said bytes
unfolding views_of
views_are bytes = from_said 0 bytes

-- The first line, and the views after it.
pub said_first : (b : ℕ) (bs : List ℕ) → said (b ∷ bs) ≡ first_line (b ∷ bs) ∷ said (after_line (b ∷ bs))
said_first b [] = go (eqb b 10) refl
  where
    go : (t : Bool) → eqb b 10 ≡ t → said (b ∷ []) ≡ first_line (b ∷ []) ∷ said (after_line (b ∷ []))
    go true p = rw p
    go false p = rw p
said_first b (c ∷ cs) = go (eqb b 10) refl (said_first c cs)
  where
    go : (t : Bool) → eqb b 10 ≡ t → said (c ∷ cs) ≡ first_line (c ∷ cs) ∷ said (after_line (c ∷ cs)) → said (b ∷ c ∷ cs) ≡ first_line (b ∷ c ∷ cs) ∷ said (after_line (b ∷ c ∷ cs))
    go true p later = rw p
    go false p later = let grew : grown_said b (said (c ∷ cs)) ≡ (b ∷ first_line (c ∷ cs)) ∷ said (after_line (c ∷ cs)) = rw later in rw p grew

-- A part that goes to the end.
pub whole_part : (bytes : List ℕ) (at : ℕ) → take (length bytes - at) (drop at bytes) ≡ drop at bytes
whole_part bytes at = rw (sym (length-drop at bytes)) (take-length (drop at bytes))
