-- How a list of names falls into lines, which of them are bad, and which number a word has. By induction over bytes and lines. Assumes nothing.
use Prim.Native.Nat.{ℕ, zero, suc, ◌+◌, ◌≤◌, ◌<◌}
use native.Mathlib.Omega.{arith}
use native.Mathlib.Nat.{add-zero}
use borrow.Author.Tests.{ne_eqb, lt-ltb, le-ltb, le-leb, lt-leb}
use mathlib.Core.Path.{◌≡◌, refl, sym, subst}
use mathlib.Core.Bool.{Bool, true, false, ◌||◌}
use mathlib.Core.List.{List, [], ◌∷◌}
use mathlib.Core.Logic.{by_cases}
use mathlib.Core.Option.{none, some}
use native.Mathlib.Decide.{dec_lt, ℕ_discrete}
use lib.Dec.{eqb, ltb}
use lib.ListN.{length, get_or, take, drop, drop_of_length-le}
use lib.Seq.{drop-cons, take-nil}
use Rattle.paper.specs.Tools.{same, some_of, column_from}
use Rattle.paper.specs.Limits.{name_limit, names_limit}
use Rattle.paper.specs.Names.{Line, lines_from, name_part, name_parts, is_name, bad_line, number_from}

-- The first line: so many bytes without an LF, and then an LF or the end of the list.
pub first-line : (n start : ℕ) (list : List ℕ) → start < length list → start + n ≤ length list
    → ((k : ℕ) → start ≤ k → k < start + n → get_or list k 0 ≡ 10 → ⊥) → (start + n < length list → get_or list (start + n) 0 ≡ 10)
    → lines_from start (drop start list)
    ≡ record { start = start; says = take n (drop start list); ended = ltb (start + n) (length list) } ∷ lines_from (suc (start + n)) (drop (suc (start + n)) list)
first-line zero start list inside room plain ends =
    let lf : get_or list start 0 ≡ 10 = rw (add-zero start) at (ends (rw (add-zero start) inside)) in
    rw (add-zero start, drop-cons list start 0 inside, lf, lt-ltb start (length list) inside)
first-line (suc n) start list inside room plain ends =
    let e : suc start + n ≡ start + suc n = omega arith in
    let b = get_or list start 0 in
    let other : eqb b 10 ≡ false = ne_eqb b 10 (plain start (omega arith) (omega arith)) in
    by_cases (dec_lt (suc start) (length list))
    (λ more.
    let later =
    first-line n (suc start) list more (omega arith) (λ k a l. plain k (omega arith) (omega arith))
    (λ l. subst (λ m. get_or list m 0 ≡ 10) (sym e) (ends (omega arith))) in
    rw (drop-cons list start 0 inside, other, later, e))
    (λ last.
    let end : length list ≤ suc start = omega arith in
    let rest : drop (suc start) list ≡ [] = drop_of_length-le list end in
    let past : drop (suc (start + suc n)) list ≡ [] = drop_of_length-le list {i = suc (start + suc n)} (omega arith) in
    rw (drop-cons list start 0 inside, other, rest, past, take-nil n, le-ltb (start + suc n) (length list) (omega arith)))

module _ (word : List ℕ) (at : ℕ) (inside : at < length word) where
  -- A byte that goes on with a name leaves the choice to those after it; another does not.
  pub parts_more : name_part (get_or word at 0) ≡ true → name_parts (drop at word) ≡ name_parts (drop (suc at) word)
  parts_more h = rw (drop-cons word at 0 inside, h)

  pub parts_end : name_part (get_or word at 0) ≡ false → name_parts (drop at word) ≡ false
  parts_end h = rw (drop-cons word at 0 inside, h)

or_true_right : (a : Bool) → (a || true) ≡ true
or_true_right true = refl
or_true_right false = refl

-- The faults of a line, one by one; a line with none of the others is bad if it repeats an earlier one.
module _ (earlier : List (List ℕ)) (l : Line) where
  abbrev repeats : Bool
  repeats = some_of (same l.says) earlier

  pub bad_name : is_name l.says ≡ false → bad_line earlier l ≡ true
  unfolding bad_line
  bad_name h = rw h

  pub bad_long : name_limit < length l.says → bad_line earlier l ≡ true
  unfolding bad_line
  bad_long h = simp (lt-ltb name_limit (length l.says) h, or_true_right)

  pub bad_open : l.ended ≡ false → bad_line earlier l ≡ true
  unfolding bad_line
  bad_open h = simp (h, or_true_right)

  pub bad_many : names_limit ≤ length earlier → bad_line earlier l ≡ true
  unfolding bad_line
  bad_many h = simp (le-leb names_limit (length earlier) h, or_true_right)

  pub bad_repeat : is_name l.says ≡ true → length l.says ≤ name_limit → l.ended ≡ true → length earlier < names_limit → bad_line earlier l ≡ repeats
  unfolding bad_line
  bad_repeat a b c d = rw (a, le-ltb name_limit (length l.says) b, c, lt-leb names_limit (length earlier) d)

-- The number of a word among names that stand in a column: the first that says it, or none.
pub number_found : (n at : ℕ) (f : ℕ → List ℕ) (word : List ℕ) (v : ℕ) → at ≤ v → v < at + n → ((u : ℕ) → at ≤ u → u < v → same (f u) word ≡ false)
    → same (f v) word ≡ true → number_from at (column_from n at f) word ≡ some v
number_found zero at f word v a l before here = absurd (omega arith)
number_found (suc n) at f word v a l before here =
    by_cases (ℕ_discrete v at) (λ e. rw (← e, here))
    (λ e. rw (before at (omega arith) (omega arith)) (number_found n (suc at) f word v (omega arith) (omega arith) (λ u b m. before u (omega arith) m) here))

pub number_none : (n at : ℕ) (f : ℕ → List ℕ) (word : List ℕ) → ((u : ℕ) → at ≤ u → u < at + n → same (f u) word ≡ false) → number_from at (column_from n at f) word ≡ none
number_none zero at f word before = refl
number_none (suc n) at f word before =
    rw (before at (omega arith) (omega arith)) (number_none n (suc at) f word (λ u b m. before u (omega arith) (omega arith)))
