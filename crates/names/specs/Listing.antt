-- What checking a list of names promises: what is kept, and where it fails.
use Rattle.std.specs.Prelude.{ℕ, ◌-◌, ◌≤◌, ◌<◌, ◌≡◌, true, false, cond, List, [], ◌∷◌, Result, IfOk, IfErr, eqb, ltb, length, get_or, take, drop}
use Rattle.std.proofs.Math.Option.{none, some}
use Rattle.paper.specs.Tools.{column, written}
use Rattle.paper.specs.Limits.{list_limit}
use Rattle.paper.specs.Names.{Line, lines_from, bad_line, names_fault, names_of}
use Rattle.paper.specs.declared.Refusal.{Refusal}
use Rattle.paper.specs.declared.Refusal.TheVariants.{BadName}
use Rattle.name_lines.specs.Lines.{said, Rising}

-- The line from `start` up to `end`; an LF ends it if the list goes on there.
abbrev pub line_to : List ℕ → ℕ → ℕ → Line
line_to list start end = record { start = start; says = take (end - start) (drop start list); ended = ltb end (length list) }

-- The first LF of the bytes stands at `len`, or there is none and they are so many.
pub record Ends (bytes : List ℕ) (len : ℕ) : Type 0 where
  pub most : len ≤ length bytes
  pub before : (k : ℕ) → k < len → eqb (get_or bytes k 0) 10 ≡ false
  pub stops : len < length bytes → eqb (get_or bytes len 0) 10 ≡ true

-- The starts say the names of the list.
pub record Indexed (list starts : List ℕ) (count : ℕ) : Type 0 where
  pub rising : Rising list starts count
  pub names : names_of list ≡ column count (said list starts)

-- The list is no longer than it may be, and has no fault.
pub record Sound (list : List ℕ) : Type 0 where
  pub short : length list ≤ list_limit
  pub sound : names_fault list ≡ none

-- The refusal of a list: where its first bad line starts.
pub record BadAt (list : List ℕ) (why : Refusal) : Type 0 where
  pub start : ℕ
  pub refused : why ≡ BadName start
  pub fault : names_fault list ≡ some start

-- The starts of the lines up to the first bad one, after these; where there is none, the end of the list as well.
abbrev pub opened : ℕ → List (List ℕ) → List Line → List ℕ
opened end before [] = end ∷ []
opened end before (l ∷ ls) =
    let later = opened end (l.says ∷ before) ls in l.start ∷ cond (bad_line before l) [] later

-- The fault is the paper's; where there is none, the starts say the names. What is kept stands first, and the rest is untouched.
pub record Checked (list old new : List ℕ) (r : Result ℕ Refusal) : Type 0 where
  pub good : IfOk r (λ count. Indexed list new count × (names_fault list ≡ none))
  pub bad : IfErr r (λ why. BadAt list why)
  pub kept : new ≡ written (opened (length list) [] (lines_from 0 list)) old
