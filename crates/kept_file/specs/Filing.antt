-- What writing a file promises: line 10, and what is written.
use Rattle.std.specs.Prelude.{◌≡◌, List, ℕ, length}
use Rattle.paper.specs.Answers.{Answer, value, line, short, at_exit}

-- The file is written where there is room for it, and otherwise the bytes needed are told and none is written.
pub record Filed (bytes old new : List ℕ) (answer : Answer) : Type 0 where
  pub says : answer ≡ line 10 (short (length old) (length bytes)) (value (length bytes))
  pub leaves : new ≡ at_exit answer bytes old
