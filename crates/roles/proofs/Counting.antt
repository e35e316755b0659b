-- The views counted line by line: the last is open exactly if it reaches the end of the bytes. By induction over the bytes. Assumes nothing.
use Prim.Native.Nat.{ℕ, suc, ◌+◌, ◌≤◌, ◌<◌}
use native.Mathlib.Omega.{arith}
use mathlib.Core.Path.{◌≡◌, refl, sym, ◌∙◌, ap, ap₂}
use mathlib.Core.Bool.{Bool, true, false, not, cond}
use mathlib.Core.List.{List, [], ◌∷◌}
use lib.Dec.{eqb}
use lib.ListN.{length, drop, get_or, length-drop, drop_of_length-le}
use lib.Seq.{drop-cons, drop-drop, length-take-le}
use Rattle.paper.specs.Tools.{some_of}
use Rattle.paper.specs.Names.{Line, grown, lines_from}
use Rattle.paper.specs.Program.{first_line, after_line}
use Rattle.paper.specs.Roles.{view_limit, unended}
use Rattle.lines.specs.Lines.{Ends}
use Rattle.view_union.proofs.Viewing.{said, said_first, views_are}
use Rattle.roles.specs.Judging.{views_counted}

-- Is the last line of the bytes open?
abbrev pub unshut : List ℕ → Bool
unshut [] = false
unshut (b ∷ []) = not (eqb b 10)
unshut (b ∷ c ∷ cs) = unshut (c ∷ cs)

-- A line is there where a byte is.
some_line : (at b : ℕ) (bs : List ℕ) → (l : Line) × (ls : List Line) × (lines_from at (b ∷ bs) ≡ l ∷ ls)
some_line at b bs = go (eqb b 10) refl
  where
    grows : (ls : List Line) → (l : Line) × (ms : List Line) × (grown at b ls ≡ l ∷ ms)
    grows [] = (_, _, refl)
    grows (l ∷ ls) = (_, _, refl)

    go : (t : Bool) → eqb b 10 ≡ t → (l : Line) × (ls : List Line) × (lines_from at (b ∷ bs) ≡ l ∷ ls)
    go true p = (record { start = at; says = []; ended = true }, lines_from (suc at) bs, rw p)
    go false p = let (l, ms, e) = grows (lines_from (suc at) bs) in (l, ms, rw p e)

abbrev opens : List Line → Bool
opens ls = some_of (λ l. not l.ended) ls

grown_open : (at b : ℕ) (l : Line) (ls : List Line) → opens (grown at b (l ∷ ls)) ≡ opens (l ∷ ls)
grown_open at b l ls = refl

from_open : (at : ℕ) (bs : List ℕ) → opens (lines_from at bs) ≡ unshut bs
from_open at [] = refl
from_open at (b ∷ []) = go (eqb b 10) refl
  where
    go : (t : Bool) → eqb b 10 ≡ t → opens (lines_from at (b ∷ [])) ≡ unshut (b ∷ [])
    go true p = rw p
    go false p = rw p
from_open at (b ∷ c ∷ cs) = go (eqb b 10) refl (from_open (suc at) (c ∷ cs))
  where
    go : (t : Bool) → eqb b 10 ≡ t → opens (lines_from (suc at) (c ∷ cs)) ≡ unshut (c ∷ cs) → opens (lines_from at (b ∷ c ∷ cs)) ≡ unshut (c ∷ cs)
    go true p later = rw (p, later)
    go false p later =
        let (l, ls, e) = some_line (suc at) c cs in
        let more : opens (l ∷ ls) ≡ unshut (c ∷ cs) = rw e at later in
        rw (p, e) more

pub open_is : (bytes : List ℕ) → unended bytes ≡ unshut bytes
unfolding unended
open_is bytes = from_open 0 bytes

-- A line that ends before the bytes do leaves the choice to those after it.
pub open_on : (bytes : List ℕ) → length (first_line bytes) < length bytes → unshut bytes ≡ unshut (after_line bytes)
open_on [] l = absurd (omega arith)
open_on (b ∷ []) l = go (eqb b 10) refl
  where
    go : (t : Bool) → eqb b 10 ≡ t → unshut (b ∷ []) ≡ unshut (after_line (b ∷ []))
    go true p = rw p
    go false p = let m : length (b ∷ []) < 1 = rw p at l in absurd (omega (arith, m))
open_on (b ∷ c ∷ cs) l = go (eqb b 10) refl (open_on (c ∷ cs))
  where
    go : (t : Bool) → eqb b 10 ≡ t → (length (first_line (c ∷ cs)) < length (c ∷ cs) → unshut (c ∷ cs) ≡ unshut (after_line (c ∷ cs))) → unshut (c ∷ cs) ≡ unshut (after_line (b ∷ c ∷ cs))
    go true p later = rw p
    go false p later = let m : suc (length (first_line (c ∷ cs))) < suc (suc (length cs)) = rw p at l in rw p (later (omega (arith, m)))

-- A line that reaches the end is open.
pub open_end : (b : ℕ) (bs : List ℕ) → length (first_line (b ∷ bs)) ≡ length (b ∷ bs) → unshut (b ∷ bs) ≡ true
open_end b [] l = go (eqb b 10) refl
  where
    go : (t : Bool) → eqb b 10 ≡ t → unshut (b ∷ []) ≡ true
    go true p = let m : ◌≡◌ {A = ℕ} 0 1 = rw p at l in absurd (omega (arith, m))
    go false p = rw p
open_end b (c ∷ cs) l = go (eqb b 10) refl (open_end c cs)
  where
    go : (t : Bool) → eqb b 10 ≡ t → (length (first_line (c ∷ cs)) ≡ length (c ∷ cs) → unshut (c ∷ cs) ≡ true) → unshut (c ∷ cs) ≡ true
    go true p later = let m : ◌≡◌ {A = ℕ} 0 (suc (suc (length cs))) = rw p at l in absurd (omega (arith, m))
    go false p later = let m : suc (length (first_line (c ∷ cs))) ≡ suc (suc (length cs)) = rw p at l in later (omega (arith, m))

-- COUNTING. So many views are counted, and what is left gives the rest.
pub record Counting (views : List ℕ) (at count : ℕ) : Type 0 where
  pub inside : at ≤ length views
  pub few : count ≤ at
  pub goes_on : views_counted views ≡ cond (unshut (drop at views)) (suc view_limit) (count + length (said (drop at views)))

pub none_counted : (views : List ℕ) → Counting views 0 0
none_counted views =
    let count : length (said views) ≡ 0 + length (said views) = omega arith in
    record {
      inside = omega arith;
      few = omega arith;
      goes_on = ap₂ (λ b n. cond b (suc view_limit) n) (open_is views) (ap length (views_are views) ∙ count);
    }

module _ (views : List ℕ) (at count : ℕ) (g : Counting views at count) (more : at < length views) (end : ℕ) (ends : Ends (drop at views) end) where
  -- So many bytes are left, and the line has so many.
  line_long : length (first_line (drop at views)) ≡ end
  line_long = sym (ap length ends.says) ∙ length-take-le end (drop at views) ends.within

  further : drop (suc end) (drop at views) ≡ drop (at + (end + 1)) views
  further = let e : at + suc end ≡ at + (end + 1) = omega arith in drop-drop (suc end) at views ∙ ap (λ k. drop k views) e

  -- A line that reaches the end is open: there is one view too many.
  pub counted_open : end ≡ length (drop at views) → views_counted views ≡ suc view_limit
  counted_open e =
      let d = drop-cons views at 0 more in
      let all : length (first_line (get_or views at 0 ∷ drop (suc at) views)) ≡ length (get_or views at 0 ∷ drop (suc at) views) = rw d at (line_long ∙ e) in
      let last : unshut (drop at views) ≡ true = rw d (open_end (get_or views at 0) (drop (suc at) views) all) in
      g.goes_on ∙ rw last

  -- Another is counted.
  pub one_counted : (end ≡ length (drop at views) → ⊥) → Counting views (at + (end + 1)) (count + 1)
  one_counted n =
      let d = drop-cons views at 0 more in
      let less : end < length (drop at views) = omega (arith, n, ends.within) in
      let short : length (first_line (drop at views)) < length (drop at views) = omega (arith, less, line_long) in
      let first : said (drop at views) ≡ first_line (drop at views) ∷ said (after_line (drop at views)) = rw d (said_first (get_or views at 0) (drop (suc at) views)) in
      let rest : after_line (drop at views) ≡ drop (at + (end + 1)) views = sym ends.rest ∙ further in
      let one_more : count + suc (length (said (drop (at + (end + 1)) views))) ≡ count + 1 + length (said (drop (at + (end + 1)) views)) = omega arith in
      record {
        inside = omega (arith, less, length-drop at views);
        few = omega (arith, g.few);
        goes_on =
            g.goes_on ∙
            ap₂ (λ b n. cond b (suc view_limit) n) (open_on (drop at views) short ∙ ap unshut rest)
            (ap (λ l. count + length l) (first ∙ ap (λ r. first_line (drop at views) ∷ said r) rest) ∙ one_more);
      }

-- Where no byte is left, all views are counted.
pub all_counted : (views : List ℕ) (at count : ℕ) → Counting views at count → length views ≤ at → count ≡ views_counted views
all_counted views at count g l =
    let end : drop at views ≡ [] = drop_of_length-le views l in
    let none_left : count ≡ count + 0 = omega arith in
    none_left ∙ sym (g.goes_on ∙ ap (λ bs. cond (unshut bs) (suc view_limit) (count + length (said bs))) end)
