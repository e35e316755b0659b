-- A place that was found stays, and otherwise the name decides. Assumes nothing.
use mathlib.Core.Path.{sym, ◌∙◌, ap}
use Rattle.paper.specs.Told.{found}
use Rattle.xml_lines.proofs.Naming.{found_before, has_name, lacks_name}
use Rattle.xml_lines.proofs.first_unnamed.Goals as goal

pub returns-then-is_some : goal.returns-then-is_some
returns-then-is_some c = λ look rows name up end e b. found_before look rows name up c.args.begin end c.args.before (sym c.is_some.ensures ∙ c.if-is_some.true) b

pub returns-in-Some : goal.returns-in-Some
returns-in-Some c = λ look rows name up end e b. has_name look rows name up c.args.begin end c.args.before (sym c.is_some.ensures ∙ c.if-is_some.false) b _ (sym (ap found c.in-Some.is) ∙ e)

pub returns-in-None : goal.returns-in-None
returns-in-None c = λ look rows name up end e b. lacks_name look rows name up c.args.begin end c.args.before (sym c.is_some.ensures ∙ c.if-is_some.false) b (sym (ap found c.in-None.is) ∙ e)
