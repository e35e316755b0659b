-- The scratch with which a run answers what following the definition node by node does.
use Rattle.std.specs.Prelude.{ℕ}
use Rattle.std.proofs.Math.Option.{Option, none, some}
use Rattle.paper.specs.Query.{Query}
use Rattle.paper.specs.Document.{Table}
use Rattle.paper.specs.Answers.{scratch_of}

-- Scratch enough for a run of the query that the items are.
abbrev pub enough : Table → Option Query → ℕ
enough t none = 0
enough t (some q) = scratch_of t q
