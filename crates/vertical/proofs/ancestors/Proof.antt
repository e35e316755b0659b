-- `vertical::ancestors` meets its contract: the parents of the nodes and of all above them are all above them (`ancestor_end`). Assumes nothing.
use borrow.Author.Rules.{rules}
use Rattle.paper.specs.Document.{table_of}
use Rattle.paper.specs.Query.{Axis, ancestor_or_self, ancestor}
use Rattle.sets.specs.Sets.{image}
use Rattle.sets.proofs.Bits.{joined}
use Rattle.vertical.proofs.StrictPass.{ancestor_end}
use Rattle.vertical.proofs.ancestors.Statement.{statement}
use Rattle.vertical.proofs.ancestors.Tie as tie

above-requires : tie.Need-above-requires
above-requires c κs = search rules

-- Past the first pass.
abbrev start_of : tie.After-above → tie.Start
start_of c = c.before.before.before.before

parents-requires : tie.Need-parents-requires
parents-requires c κs = search rules

same_length : tie.Need-shape_of-set
same_length c = search rules

returns : tie.Need-returns
returns c =
    λ kinds f e.
    let first = c in
    let start = start_of first.before.before.before.before.before.before in
    let t = table_of start.args.parent.now kinds in
    joined start.requires.0 (image t ancestor_or_self f) (image t Axis.parent (image t ancestor_or_self f)) (image t ancestor f) (first.above.ensures kinds f e) (c.parents.ensures kinds (image t ancestor_or_self f))
    (ancestor_end t (start.requires.1 kinds) f)

pub ancestors_spec : {M : Type 1} → statement M
ancestors_spec = tie.close (tie.spec above-requires parents-requires same_length returns)
