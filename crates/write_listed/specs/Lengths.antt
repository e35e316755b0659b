-- The lengths that line 1 lets through.
use Rattle.std.specs.Prelude.{ℕ, ◌≤◌, ◌≡◌, List, length}
use Rattle.paper.specs.Limits.{text_limit, list_limit, node_limit}

pub record Lengths (text list parents kinds begins ends marks : List ℕ) : Type 0 where
  pub text_short : length text ≤ text_limit
  pub list_short : length list ≤ list_limit
  pub few : length parents ≤ node_limit
  pub kinds_long : length kinds ≡ length parents
  pub begins_long : length begins ≡ length parents
  pub ends_long : length ends ≡ length parents
  pub marks_long : length marks ≡ length parents
