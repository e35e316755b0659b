-- What a call that is accepted may do, and that its scratch would be enough. Assumes nothing.
use Prim.Native.Nat.{ℕ, ◌≤◌}
use native.Mathlib.Omega.{arith}
use mathlib.Core.Path.{◌≡◌}
use mathlib.Core.List.{List}
use mathlib.Core.Option.{some}
use Rattle.paper.specs.Query.{Query}
use Rattle.paper.specs.Items.{decode}
use Rattle.paper.specs.Document.{Table, table_of}
use Rattle.paper.specs.Answers.{scratch_of}
use Rattle.paper.proofs.Trees.{tree}
use Rattle.kin.proofs.Climbing.{any_kinds}
use Rattle.candidates.specs.Best.{Ready}
use Rattle.judge.proofs.Answering.{Accepted}
use Rattle.follow.specs.Follows.{enough}

-- The scratch that is enough is enough for the query that was read.
pub enough_for : (query : List ℕ) (t : Table) (q : Query) → decode query ≡ some q → scratch_of t q ≤ enough t (decode query)
enough_for query t q e = rw e (omega arith)

-- Where nothing refuses, the document can be searched.
pub searchable : (query parents kinds given : List ℕ) (marks_room tall : ℕ) → Accepted query (table_of parents kinds) given marks_room tall → Ready parents kinds given
searchable query parents kinds given marks_room tall a =
    record {
      kinds_all = a.agree.kinds_all;
      marks_all = a.agree.given_all;
      tree = any_kinds parents kinds (tree (table_of parents kinds) a.table_good);
      few = a.agree.nodes_few;
    }
