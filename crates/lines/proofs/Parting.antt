-- Where a name list ends that a blank line parts from what follows: the bytes passed belong to it as long as no LF stands where a line starts. By what is left of the bytes. Assumes nothing.
use Prim.Native.Nat.{ℕ, suc, ◌+◌, ◌≤◌, ◌<◌}
use native.Mathlib.Numerals.{add-one}
use native.Mathlib.Omega.{arith}
use mathlib.Core.Path.{◌≡◌, refl, ◌∙◌}
use mathlib.Core.Bool.{Bool, true, false, ◌&&◌}
use mathlib.Core.List.{List, [], ◌∷◌, ◌++◌, append_assoc, append-nil}
use lib.Dec.{eqb}
use lib.ListN.{length, take, drop, get_or, drop_of_length-le}
use lib.Seq.{take-suc, drop-cons}
use Rattle.paper.specs.Sheet.{list_part, files_part}
use Rattle.lines.specs.Lines.{Parts}

-- The bytes before `at` belong to the list; does a line start there?
pub record Listed (bytes : List ℕ) (starts : Bool) (at : ℕ) : Type 0 where
  pub inside : at ≤ length bytes
  pub names : take at bytes ++ list_part starts (drop at bytes) ≡ list_part true bytes
  pub rest : files_part starts (drop at bytes) ≡ files_part true bytes

pub none_listed : (bytes : List ℕ) → Listed bytes true 0
none_listed bytes = record { inside = omega arith; names = refl; rest = refl }

module _ (bytes : List ℕ) (starts : Bool) (at : ℕ) (p : Listed bytes starts at) where
  -- One byte more that does not end the list.
  pub one_listed : at < length bytes → (starts && eqb (get_or bytes at 0) 10) ≡ false → Listed bytes (eqb (get_or bytes at 0) 10) (at + 1)
  one_listed l n =
      let b = get_or bytes at 0 in
      let tail = drop (suc at) bytes in
      let names : take (suc at) bytes ++ list_part (eqb b 10) tail ≡ list_part true bytes =
      rw (take-suc bytes at 0 l, append_assoc (take at bytes) (b ∷ []) (list_part (eqb b 10) tail)) (rw (drop-cons bytes at 0 l, n) at p.names) in
      let rest : files_part (eqb b 10) tail ≡ files_part true bytes = rw (drop-cons bytes at 0 l, n) at p.rest in
      rw (add-one at) (record { inside = omega arith; names = names; rest = rest })

  -- At an LF where a line starts the list ends.
  pub parts_there : at < length bytes → (starts && eqb (get_or bytes at 0) 10) ≡ true → Parts bytes at
  parts_there l e =
      let names : take at bytes ++ [] ≡ list_part true bytes = rw (drop-cons bytes at 0 l, e) at p.names in
      record {
        inside = p.inside;
        names = rw append-nil at names;
        rest = rw (drop-cons bytes at 0 l, e) at p.rest;
      }

  -- Where the bytes end the list ends, and nothing follows.
  pub parts_last : length bytes ≤ at → Parts bytes at
  parts_last l =
      let none : drop at bytes ≡ [] = drop_of_length-le bytes l in
      let after : drop (suc at) bytes ≡ [] = (let past : length bytes ≤ suc at = omega arith in drop_of_length-le bytes past) in
      let names : take at bytes ++ [] ≡ list_part true bytes = rw none at p.names in
      let rest : [] ≡ files_part true bytes = rw none at p.rest in
      record { inside = p.inside; names = rw append-nil at names; rest = after ∙ rest }
