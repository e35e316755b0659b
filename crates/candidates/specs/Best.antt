-- A document that can be searched, and the last of some numbers that passes a test.
use Rattle.std.specs.Prelude.{ℕ, ◌≤◌, ◌<◌, ◌≡◌, Bool, true, false, List, length, Option, Some, None}
use Rattle.paper.specs.Limits.{node_limit}
use Rattle.kin.specs.Nearness.{near}

-- A document that can be searched: columns and marks of one length, a tree, and nodes whose numbers fit.
pub record Ready (parents kinds marks : List ℕ) : Type 0 where
  pub kinds_all : length kinds ≡ length parents
  pub marks_all : length marks ≡ length parents
  pub tree : near parents
  pub few : length parents ≤ node_limit

-- The last number below a bound that passes the test,
pub record Last (test : ℕ → Bool) (bound n : ℕ) : Type 0 where
  pub within : n < bound
  pub here : test n ≡ true
  pub later : (j : ℕ) → n < j → j < bound → test j ≡ false

-- and none where none does.
abbrev pub Best : (ℕ → Bool) → ℕ → Option ℕ → Type 0
Best test bound None = (j : ℕ) → j < bound → test j ≡ false
Best test bound (Some n) = Last test bound n
