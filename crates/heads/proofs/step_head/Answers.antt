-- `heads::step_head` meets its contract: `.`, `..`, or an axis and a test. Assumes nothing.
use mathlib.Core.Path.{refl}
use Rattle.paper.specs.Query.{child}
use Rattle.heads.proofs.Heading.{head_dot, head_dots, head_axis, head_child}
use Rattle.heads.proofs.Making.{dot_made, dots_made, axis_made, child_made}
use Rattle.heads.proofs.step_head.Goals as goal

pub returns-in-Ok-clause-heads : goal.returns-in-Ok-clause-heads
returns-in-Ok-clause-heads c =
    let m = c.in-Ok.ensures in
    head_dot _ _ _ _ _ c.dotted.result c.dotted.ensures m.0 m.2

pub returns-in-Ok-clause-value : goal.returns-in-Ok-clause-value
returns-in-Ok-clause-value c =
    let m = c.in-Ok.ensures in
    dot_made _ _ _ _ _ c.dotted.result c.dotted.ensures m.0 m.2

pub returns-in-Ok-mark-clause-heads : goal.returns-in-Ok-mark-clause-heads
returns-in-Ok-mark-clause-heads c =
    let m = c.in-Ok-mark.ensures in
    head_dots _ _ _ _ _ c.dotted-in-Ok-mark.result c.dotted-in-Ok-mark.ensures c.in_default.ensures.0 m.0 m.2

pub returns-in-Ok-mark-clause-value : goal.returns-in-Ok-mark-clause-value
returns-in-Ok-mark-clause-value c =
    let m = c.in-Ok-mark.ensures in
    dots_made _ _ _ _ _ c.dotted-in-Ok-mark.result c.dotted-in-Ok-mark.ensures c.in_default.ensures.0 m.0 m.2

pub returns-in-Some-clause-heads : goal.returns-in-Some-clause-heads
returns-in-Some-clause-heads c =
    let w = c.in-Some.ensures in
    head_axis _ _ _ _ c.in_default.ensures.0 c.in_default-mark.ensures.0 c.tested.result _ _ w (c.tested.ensures.heads _ w.way w.number)

pub returns-in-Some-clause-value : goal.returns-in-Some-clause-value
returns-in-Some-clause-value c =
    let w = c.in-Some.ensures in
    axis_made _ _ _ _ c.in_default.ensures.0 c.in_default-mark.ensures.0 c.tested.result _ _ w c.tested.ensures.value

pub returns-in-None-clause-heads : goal.returns-in-None-clause-heads
returns-in-None-clause-heads c =
    head_child _ _ _ _ c.in_default.ensures.0 c.in_default-mark.ensures.0 c.tested-in-None.result c.in-None.ensures (c.tested-in-None.ensures.heads _ child refl)

pub returns-in-None-clause-value : goal.returns-in-None-clause-value
returns-in-None-clause-value c =
    child_made _ _ _ _ c.in_default.ensures.0 c.in_default-mark.ensures.0 c.tested-in-None.result c.in-None.ensures c.tested-in-None.ensures.value
