-- `put_listed_head` meets its contract: `.` and `..` where the short form has them, and otherwise the axis and the test.
use Rattle.pen.proofs.Putting.{puts_both, puts_as}
use Rattle.put_steps.proofs.Words.{dot_text, dots_text, head_text}
use Rattle.put_steps.proofs.put_listed_head.Goals as goal

pub returns-then-dot-clause-puts : goal.returns-then-dot-clause-puts
returns-then-dot-clause-puts c =
    let step = c.args.step in
    λ x t e f g. puts_as (dot_text _ c.args.brief x t step.axis step.test step.count e f c.if-dot.true) c.put.ensures

pub returns-then-dots-clause-puts : goal.returns-then-dots-clause-puts
returns-then-dots-clause-puts c =
    let step = c.args.step in
    λ x t e f g. puts_as (dots_text _ c.args.brief x t step.axis step.test step.count e f c.if-dot.false c.if-dots.true) c.put-then-dots.ensures

pub returns-clause-puts : goal.returns-clause-puts
returns-clause-puts c =
    let step = c.args.step in
    λ x t e f g.
    puts_as (head_text _ c.args.brief x t step.axis step.test step.count e f c.if-dot.false c.if-dots.false)
    (puts_both (c.put_along-ready.ensures.puts x e) (c.put_test.ensures.puts t f g))
