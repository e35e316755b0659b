-- What measuring and keeping a text promises, and the answer that a refusal stands for.
use Rattle.std.specs.Prelude.{ℕ, ◌≤◌, ◌≡◌, List, Result, Ok, Err, length, take}
use Rattle.paper.specs.Limits.{item_limit}
use Rattle.paper.specs.Tokens.{Placed}
use Rattle.paper.specs.Query.{Query}
use Rattle.paper.specs.Reading.{Got, got}
use Rattle.paper.specs.Items.{encode}
use Rattle.paper.specs.Measures.{size}
use Rattle.paper.specs.declared.Refusal.{Refusal}
use Rattle.heads.specs.Heads.{Refused}

-- What was read of a whole text, with its items at the start of what was kept, if there was room for them.
pub record Kept (few : List ℕ) (outcome : Got Query) (end : ℕ) : Type 0 where
  pub what : Query
  pub left : List Placed
  pub reads : outcome ≡ got what left
  pub ends : end ≡ length (encode what)
  pub limited : end ≤ item_limit
  pub stands : end ≤ length few → take end few ≡ encode what

-- What was measured of a whole text.
pub record Sized (outcome : Got Query) (end : ℕ) : Type 0 where
  pub what : Query
  pub left : List Placed
  pub reads : outcome ≡ got what left
  pub ends : end ≡ size what

abbrev pub Measures : Got Query → Result ℕ Refusal → Type 0
Measures outcome (Ok end) = Sized outcome end
Measures outcome (Err why) = Refused outcome why
