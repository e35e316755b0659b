-- `sideways::preceding` meets its contract: the second pass begins where the first ends. Assumes nothing.
use mathlib.Core.Path.{refl}
use borrow.Author.Rules.{rules}
use Rattle.paper.specs.Query.{Axis, ancestor_or_self}
use Rattle.paper.specs.Document.{table_of}
use Rattle.sets.specs.Sets.{image}
use Rattle.sets.proofs.Bits.{joined}
use Rattle.sideways.proofs.preceding.Statement.{statement}
use Rattle.sideways.proofs.preceding.Tie as tie

above-requires : tie.Need-above-requires
above-requires c κs = search rules

-- Past the first pass.
abbrev start_of : tie.After-above → tie.Start
start_of c = c.before.before.before.before

passed-by-requires : tie.Need-passed_by-requires
passed-by-requires c κs = search rules

same_length : tie.Need-shape_of-set
same_length c = search rules

returns : tie.Need-returns
returns c =
    λ kinds f e.
    let first = c in
    let start = start_of first.before.before.before.before.before.before in
    let t = table_of start.args.parent.now kinds in
    joined start.requires.0 (image t ancestor_or_self f) (image t Axis.preceding f) (image t Axis.preceding f) (first.above.ensures kinds f e) (c.passed_by.ensures kinds f) refl

pub preceding_spec : {M : Type 1} → statement M
preceding_spec = tie.close (tie.spec above-requires passed-by-requires same_length returns)
