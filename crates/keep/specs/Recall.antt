-- Sets kept of predicates that were worked out before: they stand behind all other sets, and an entry says where the items of each stand.
use Rattle.std.specs.Prelude.{ℕ, ◌+◌, ◌-◌, ◌*◌, ◌/◌, ◌%◌, ◌≤◌, ◌<◌, ◌≡◌, List, ◌⊎◌, length, get_or, set, take, drop}
use Rattle.std.proofs.Math.Option.{some}
use Rattle.paper.specs.Limits.{item_limit}
use Rattle.paper.specs.Query.{Expr}
use Rattle.paper.specs.Items.{take_expr, take_within}
use Rattle.paper.specs.Document.{Table}
use Rattle.paper.specs.Selection.{holds}
use Rattle.sets.specs.Sets.{bits}

-- The bytes in front of so many sets kept.
abbrev pub spare : ℕ → ℕ → List ℕ → ℕ
spare slots n sets = length sets - n * slots

-- The i-th set kept.
abbrev pub kept_set : ℕ → ℕ → List ℕ → ℕ → List ℕ
kept_set slots n sets i = take n (drop (spare slots n sets + n * i) sets)

-- Where the items of an entry begin, and how many they are.
abbrev pub place_of : ℕ → ℕ
place_of entry = entry / 65536

abbrev pub count_of : ℕ → ℕ
count_of entry = entry % 65536

-- The items of an entry are an expression, and the set is that of the nodes at which it holds.
pub record WorkedOut (t : Table) (marks items : List ℕ) (n entry : ℕ) (set : List ℕ) : Type 0 where
  pub depth : ℕ
  pub what : Expr
  pub reads : take_expr (take_within depth) (drop (place_of entry) items) ≡ some (what, drop (place_of entry + count_of entry) items)
  pub inside : place_of entry + count_of entry ≤ length items
  pub holding : set ≡ bits n (holds t marks what)

-- Each entry that is not free has its set.
pub record Kept (t : Table) (marks items : List ℕ) (n : ℕ) (known sets : List ℕ) : Type 0 where
  pub each : (i : ℕ) → i < length known → 0 < get_or known i 0 → WorkedOut t marks items n (get_or known i 0) (kept_set (length known) n sets i)

-- The items of each entry stand among the items.
abbrev pub Inside : List ℕ → List ℕ → Type 0
Inside items known = (i : ℕ) → i < length known → 0 < get_or known i 0 → place_of (get_or known i 0) + count_of (get_or known i 0) ≤ length items

-- The items of an entry stand at the place too.
pub record Stands (items : List ℕ) (at entry : ℕ) : Type 0 where
  pub used : 0 < entry
  pub inside : at + count_of entry ≤ length items
  pub equal : take (count_of entry) (drop (place_of entry) items) ≡ take (count_of entry) (drop at items)

-- So many bytes have been copied, and all others are as they were.
pub record Copied (from to n : ℕ) (before after : List ℕ) : Type 0 where
  pub copied : (k : ℕ) → k < n → get_or after (to + k) 0 ≡ get_or before (from + k) 0
  pub front : (k : ℕ) → k < to → get_or after k 0 ≡ get_or before k 0
  pub back : (k : ℕ) → to + n ≤ k → get_or after k 0 ≡ get_or before k 0

-- The first set is kept under an entry.
pub record KeptAs (n entry : ℕ) (known sets known' sets' : List ℕ) : Type 0 where
  pub slot : ℕ
  pub there : slot < length known
  pub entries : known' ≡ set known slot entry
  pub copy : Copied 0 (spare (length known) n sets + n * slot) n sets sets'

-- The first set is kept under the items from one place to another, which an entry can say, or nothing has changed.
abbrev pub Remembered : ℕ → ℕ → ℕ → List ℕ → List ℕ → List ℕ → List ℕ → Type 0
Remembered n at next known sets known' sets' =
    ((known' ≡ known) × (sets' ≡ sets)) ⊎ ((next < 65536) × KeptAs n (at * 65536 + (next - at)) known sets known' sets')
