-- One node more is looked at, and after the last one all are.
use Rattle.std.proofs.Common.{arith}
use Rattle.kept_file.proofs.Elements.{one_looked, all_looked}
use Rattle.kept_file.proofs.element_marked.Goals as goal

pub loop-i-preserved : goal.loop-i-preserved
loop-i-preserved c = one_looked c.args.kind.now c.args.marks.now c.loop-i.i c.loop-i.found c.loop-i.invariant

pub returns : goal.returns
returns c parents l = all_looked parents c.args.kind.now c.args.marks.now c.loop-i.i c.loop-i.found c.loop-i.invariant (omega arith) l
