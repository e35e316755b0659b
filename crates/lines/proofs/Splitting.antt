-- Where the first line of some bytes ends and the next one starts: by induction over the bytes, and by what is left of them, where the bytes passed are its own as long as none of them is LF. Assumes nothing.
use Prim.Native.Nat.{ℕ, suc, ◌+◌, ◌-◌, ◌≤◌, ◌<◌}
use native.Mathlib.Numerals.{add-one}
use native.Mathlib.Omega.{arith}
use mathlib.Core.Path.{◌≡◌, refl, sym, ◌∙◌, ap}
use mathlib.Core.Bool.{Bool, true, false, cond}
use mathlib.Core.List.{List, [], ◌∷◌, ◌++◌, append_assoc, append-nil}
use lib.Dec.{eqb, ltb}
use lib.ListN.{length, take, drop, get_or, length-drop, drop_of_length-le}
use lib.Seq.{take_all, take-suc, drop-cons}
use borrow.Author.Tests.{ltb-false, eq-eqb, ne_eqb}
use Rattle.std.specs.Prelude.{Some, None}
use Rattle.std.specs.Option.{unwrap_or}
use Rattle.std.specs.List.{position_or_len}
use Rattle.paper.specs.Program.{first_line, after_line}
use Rattle.lines.specs.Lines.{Ends, Starts}

-- Is the byte an LF?
abbrev pub is_lf : ℕ → Bool
is_lf b = eqb b 10

-- A byte that is no LF before the first line.
ends_later : (b : ℕ) (bs : List ℕ) (n : ℕ) → eqb b 10 ≡ false → Ends bs n → Ends (b ∷ bs) (1 + n)
ends_later b bs n e later =
    let one : 1 + n ≡ suc n = omega arith in
    rw one (record { within = omega (arith, later.within); says = rw e (ap (λ l. b ∷ l) later.says); rest = rw e later.rest })

-- The first LF ends the line, or else the bytes do.
pub line_ends : (bytes : List ℕ) → Ends bytes (position_or_len is_lf bytes)
line_ends [] = record { within = omega arith; says = refl; rest = refl }
line_ends (b ∷ bs) = go (eqb b 10) refl (line_ends bs)
  where
    go : (h : Bool) → eqb b 10 ≡ h → Ends bs (position_or_len is_lf bs) → Ends (b ∷ bs) (position_or_len is_lf (b ∷ bs))
    go true e later = rw e (record { within = omega arith; says = rw e refl; rest = rw e refl })
    go false e later = rw e (ends_later b bs (position_or_len is_lf bs) e later)

-- A place looked for, and the end where there is none.
pub place_or : (bytes : List ℕ)
    → unwrap_or (cond (ltb (position_or_len is_lf bytes) (length bytes)) (Some (position_or_len is_lf bytes)) None) (length bytes) ≡ position_or_len is_lf bytes
place_or bytes = go (position_or_len is_lf bytes) (line_ends bytes).within
  where
    go : (n : ℕ) → n ≤ length bytes → unwrap_or (cond (ltb n (length bytes)) (Some n) None) (length bytes) ≡ n
    go n l = both (ltb n (length bytes)) refl
      where
        both : (h : Bool) → ltb n (length bytes) ≡ h → unwrap_or (cond (ltb n (length bytes)) (Some n) None) (length bytes) ≡ n
        both true e = rw e refl
        both false e = rw e (let past : length bytes ≤ n = ltb-false n (length bytes) e in omega arith)

-- The bytes before `at` belong to the first line.
pub record Passed (bytes : List ℕ) (at : ℕ) : Type 0 where
  pub inside : at ≤ length bytes
  pub line : take at bytes ++ first_line (drop at bytes) ≡ first_line bytes
  pub later : after_line (drop at bytes) ≡ after_line bytes

pub none_passed : (bytes : List ℕ) → Passed bytes 0
none_passed bytes = record { inside = omega arith; line = refl; later = refl }

module _ (bytes : List ℕ) (at : ℕ) (p : Passed bytes at) where
  -- One byte more that is no LF.
  pub one_passed : at < length bytes → (get_or bytes at 0 ≡ 10 → ⊥) → Passed bytes (at + 1)
  one_passed l n =
      let b = get_or bytes at 0 in
      let tail = drop (suc at) bytes in
      let line : take (suc at) bytes ++ first_line tail ≡ first_line bytes =
      rw (take-suc bytes at 0 l, append_assoc (take at bytes) (b ∷ []) (first_line tail)) (rw (drop-cons bytes at 0 l, ne_eqb b 10 n) at p.line) in
      let later : after_line tail ≡ after_line bytes = rw (drop-cons bytes at 0 l, ne_eqb b 10 n) at p.later in
      rw (add-one at) (record { inside = omega arith; line = line; later = later })

  -- At an LF the line ends.
  pub ends_there : at < length bytes → get_or bytes at 0 ≡ 10 → Ends bytes at
  ends_there l e =
      let b = get_or bytes at 0 in
      let line : take at bytes ++ [] ≡ first_line bytes = rw (drop-cons bytes at 0 l, eq-eqb b 10 e) at p.line in
      record {
        within = p.inside;
        says = rw append-nil at line;
        rest = rw (drop-cons bytes at 0 l, eq-eqb b 10 e) at p.later;
      }

  -- Where the bytes end the line ends, and nothing follows.
  pub ends_last : length bytes ≤ at → Ends bytes at
  ends_last l =
      let none : drop at bytes ≡ [] = drop_of_length-le bytes l in
      let after : drop (suc at) bytes ≡ [] = (let past : length bytes ≤ suc at = omega arith in drop_of_length-le bytes past) in
      let line : take at bytes ++ [] ≡ first_line bytes = rw none at p.line in
      let later : [] ≡ after_line bytes = rw none at p.later in
      record { within = p.inside; says = rw append-nil at line; rest = after ∙ later }

-- The next line starts after the LF, or nowhere.
pub starts_after : (bytes : List ℕ) (end : ℕ) → end < length bytes → Starts bytes end (end + 1)
starts_after bytes end l = record { inside = omega arith; follows = rw (add-one end) }

pub starts_nowhere : (bytes : List ℕ) (end : ℕ) → end ≤ length bytes → length bytes ≤ end → Starts bytes end end
starts_nowhere bytes end k l =
    let here : drop end bytes ≡ [] = drop_of_length-le bytes l in
    let after : drop (suc end) bytes ≡ [] = (let past : length bytes ≤ suc end = omega arith in drop_of_length-le bytes past) in
    record { inside = k; follows = here ∙ sym after }

-- What is lent from its start on is all that follows.
pub next_whole : (bytes : List ℕ) (end start : ℕ) → Starts bytes end start → take (length bytes - start) (drop start bytes) ≡ drop (suc end) bytes
next_whole bytes end start s = take_all (length bytes - start) (drop start bytes) (omega (arith, length-drop start bytes)) ∙ s.follows
