-- `vertical::descendants` meets its contract: the children of the nodes and of all below them are all below them (`descendant_end`). Assumes nothing.
use borrow.Author.Rules.{rules}
use Rattle.paper.specs.Document.{table_of}
use Rattle.paper.specs.Query.{child, descendant_or_self, descendant}
use Rattle.sets.specs.Sets.{image}
use Rattle.sets.proofs.Bits.{joined}
use Rattle.vertical.proofs.StrictPass.{descendant_end}
use Rattle.vertical.proofs.descendants.Statement.{statement}
use Rattle.vertical.proofs.descendants.Tie as tie

below-requires : tie.Need-below-requires
below-requires c κs = search rules

-- Past the first pass.
abbrev start_of : tie.After-below → tie.Start
start_of c = c.before.before.before.before

children-requires : tie.Need-children-requires
children-requires c κs = search rules

same_length : tie.Need-shape_of-set
same_length c = search rules

returns : tie.Need-returns
returns c =
    λ kinds f e.
    let first = c in
    let start = start_of first.before.before.before.before.before.before in
    let t = table_of start.args.parent.now kinds in
    joined start.requires.0 (image t descendant_or_self f) (image t child (image t descendant_or_self f)) (image t descendant f) (first.below.ensures kinds f e) (c.children.ensures kinds (image t descendant_or_self f))
    (descendant_end t (start.requires.1 kinds) f)

pub descendants_spec : {M : Type 1} → statement M
descendants_spec = tie.close (tie.spec below-requires children-requires same_length returns)
