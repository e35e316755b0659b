-- docs/SCOPE.md, "The part of XPath": names, and the lent list that they come from.
use Rattle.std.specs.Prelude.{ℕ, suc, Bool, true, false, not, ◌&&◌, ◌||◌, cond, List, [], ◌∷◌, map, eqb, leb, ltb, length}
use Rattle.std.proofs.Math.Option.{Option, none, some}
use Rattle.paper.specs.Tools.{same, some_of}
use Rattle.paper.specs.Limits.{name_limit, names_limit}

-- A letter: A to Z, a to z.
abbrev pub letter : ℕ → Bool
letter b = leb 65 b && leb b 90 || leb 97 b && leb b 122

-- A name starts with a letter or `_`.
abbrev pub name_start : ℕ → Bool
name_start b = letter b || eqb b 95

-- It goes on with letters, digits, `.`, `-` and `_`.
abbrev pub name_part : ℕ → Bool
name_part b = name_start b || leb 48 b && leb b 57 || eqb b 46 || eqb b 45

-- Are all bytes such as a name goes on with?
abbrev pub name_parts : List ℕ → Bool
name_parts [] = true
name_parts (b ∷ bs) = name_part b && name_parts bs

-- Is this a name?
abbrev pub is_name : List ℕ → Bool
is_name [] = false
is_name (b ∷ bs) = name_start b && name_parts bs

-- A line of the list: where it starts, what it says, and whether an LF ends it.
pub record Line : Type 0 where
  pub start : ℕ
  pub says : List ℕ
  pub ended : Bool

-- The lines, with a byte put before the first.
abbrev pub grown : ℕ → ℕ → List Line → List Line
grown at b [] = record { start = at; says = b ∷ []; ended = false } ∷ []
grown at b (l ∷ ls) = record { start = at; says = b ∷ l.says; ended = l.ended } ∷ ls

-- The lines of bytes that start at `at`: each name is ended by LF, which is 10.
abbrev pub lines_from : ℕ → List ℕ → List Line
lines_from at [] = []
lines_from at (b ∷ bs) =
    let later = lines_from (suc at) bs in cond (eqb b 10) (record { start = at; says = []; ended = true } ∷ later) (grown at b later)

-- Is the line bad, after these: no name, too long, no LF, one too many, or a repeat?
unfoldable pub bad_line : List (List ℕ) → Line → Bool
bad_line earlier l =
    not (is_name l.says) || ltb name_limit (length l.says) || not l.ended || leb names_limit (length earlier) || some_of (same l.says) earlier

-- The start of the first bad line, after these.
abbrev pub first_bad : List (List ℕ) → List Line → Option ℕ
first_bad earlier [] = none
first_bad earlier (l ∷ ls) =
    let later = first_bad (l.says ∷ earlier) ls in cond (bad_line earlier l) (some l.start) later

-- Refusal 2: the start of the first bad line of the list.
unfoldable pub names_fault : List ℕ → Option ℕ
names_fault list = first_bad [] (lines_from 0 list)

-- The names of the list; name v counts from 0.
unfoldable pub names_of : List ℕ → List (List ℕ)
names_of list = map (λ l. l.says) (lines_from 0 list)

-- The number of a word among the names, counting from v.
abbrev pub number_from : ℕ → List (List ℕ) → List ℕ → Option ℕ
number_from v [] word = none
number_from v (n ∷ ns) word = let later = number_from (suc v) ns word in cond (same n word) (some v) later

-- The number of a word among the names.
abbrev pub number_of : List (List ℕ) → List ℕ → Option ℕ
number_of names word = number_from 0 names word
