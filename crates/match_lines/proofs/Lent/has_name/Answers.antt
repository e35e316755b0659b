-- The columns are those that are lent.
use Rattle.std.proofs.Common.{subst, ap}
use Rattle.line_tests.specs.Telling.{Tells, NamedAt}
use Rattle.xml_lines.specs.Kept.{Columns}
use Rattle.match_lines.proofs.Lent.has_name.Goals as goal

pub returns : goal.returns
returns c look name e = subst (λ k. Tells c.kind_is.result (NamedAt look name k c.args.n)) (ap (λ (v : Columns). v.kinds) c.self.view_is) (c.kind_is.ensures look name e)
