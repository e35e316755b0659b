-- What a checked list says of its names: how many they are, the number of a word, and that each has from 1 to 64 bytes. Assumes nothing.
use Prim.Native.Nat.{ℕ, zero, suc, ◌≤◌, ◌<◌}
use native.Mathlib.Omega.{arith}
use native.Mathlib.Decide.{dec_lt}
use mathlib.Core.Path.{◌≡◌, refl, sym, ◌∙◌, ap}
use mathlib.Core.Bool.{true, false, false≢true, cond}
use mathlib.Core.List.{List, [], ◌∷◌, map}
use mathlib.Core.Logic.{by_cases, ⊎_elim}
use mathlib.Core.Option.{none, some}
use lib.ListN.{length, get_or}
use Rattle.paper.specs.Limits.{name_limit, names_limit}
use Rattle.paper.specs.Names.{Line, is_name, bad_line, first_bad, lines_from, names_fault, names_of, number_of, number_from}
use Rattle.paper.specs.Tools.{same, column_from, first_from, first_below}
use Rattle.paper.specs.Told.{found}
use Rattle.paper.proofs.Lines.{bad_name, bad_long}
use Rattle.paper.proofs.Searches.{length_column, column_at}
use Rattle.paper.proofs.Tests.{decide, none-some}
use Rattle.std.proofs.Common.{Option, Some, None, IfSome}
use Rattle.name_lines.specs.Lines.{said}
use Rattle.name_lines.proofs.Firsts.{first_some}
use Rattle.names.specs.Listing.{Indexed}

-- A name has a first byte.
pub name_length : (word : List ℕ) → is_name word ≡ true → 0 < length word
name_length [] h = absurd (false≢true h)
name_length (b ∷ bs) h = omega arith

-- The number of a word among names that stand in a column is the first place that says it.
number_column : (n at : ℕ) (f : ℕ → List ℕ) (word : List ℕ) → number_from at (column_from n at f) word ≡ first_from n at (λ v. same (f v) word)
number_column zero at f word = refl
number_column (suc n) at f word = ap (λ later. cond (same (f at) word) (some at) later) (number_column n (suc at) f word)

-- A line that is not bad has from 1 to 64 bytes.
good_line : (earlier : List (List ℕ)) (line : Line) → bad_line earlier line ≡ false → (0 < length line.says) × (length line.says ≤ name_limit)
good_line earlier line good = (
  ⊎_elim (λ h. name_length line.says h) (λ h. absurd (false≢true (sym good ∙ bad_name earlier line h))) (decide (is_name line.says)),
  by_cases (dec_lt name_limit (length line.says)) (λ h. absurd (false≢true (sym good ∙ bad_long earlier line h))) (λ h. omega arith),
)

sound_line : (earlier : List (List ℕ)) (ls : List Line) (v : ℕ) → first_bad earlier ls ≡ none → v < length (map (λ l. l.says) ls)
    → (0 < length (get_or (map (λ l. l.says) ls) v [])) × (length (get_or (map (λ l. l.says) ls) v []) ≤ name_limit)
sound_line earlier [] v sound l = absurd (omega arith)
sound_line earlier (line ∷ ls) zero sound l = ⊎_elim (λ bad. none-some (sym (rw bad at sound))) (λ good. good_line earlier line good) (decide (bad_line earlier line))
sound_line earlier (line ∷ ls) (suc v) sound l =
    ⊎_elim (λ bad. none-some (sym (rw bad at sound)))
    (λ good. sound_line (line.says ∷ earlier) ls v (rw good at sound) (omega arith))
    (decide (bad_line earlier line))

-- A name of a list with no fault has from 1 to 64 bytes.
pub name_sized : (list : List ℕ) (v : ℕ) → names_fault list ≡ none → v < length (names_of list)
    → (0 < length (get_or (names_of list) v [])) × (length (get_or (names_of list) v []) ≤ name_limit)
unfolding names_fault names_of
name_sized list v sound l = sound_line [] (lines_from 0 list) v sound l

module _ {list starts : List ℕ} {count : ℕ} (known : Indexed list starts count) where
  -- The starts say as many names as the list has.
  pub counted : length (names_of list) ≡ count
  counted = ap length known.names ∙ length_column count 0 (said list starts)

  -- What a line says is the name of its number.
  pub spelled : (v : ℕ) → v < count → said list starts v ≡ get_or (names_of list) v []
  spelled v l = sym (ap (λ names. get_or names v []) known.names ∙ column_at count (said list starts) [] v l)

  -- The number of a word is the first line that says it.
  pub number_first : (word : List ℕ) → first_below count (λ v. same (said list starts v) word) ≡ number_of (names_of list) word
  number_first word = sym (ap (λ names. number_of names word) known.names ∙ number_column count 0 (said list starts) word)

  -- It is below the number of lines.
  pub number_few : (word : List ℕ) (r : Option ℕ) → found r ≡ first_below count (λ v. same (said list starts v) word) → IfSome r (λ v. v < names_limit)
  number_few word None h = tt
  number_few word (Some v) h = omega (arith, (first_some count 0 (λ u. same (said list starts u) word) v (sym h)).most, known.rising.few)
