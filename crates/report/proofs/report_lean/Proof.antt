-- `report::report_lean` meets its contract. Assumes nothing.
use borrow.Author.Rules.{rules}
use Rattle.report.specs.Printing.{lean_prints}
use Rattle.report.proofs.report_lean.Statement.{statement}
use Rattle.report.proofs.report_lean.Tie as tie

report-by-requires : tie.Need-report_by-requires
report-by-requires c κs = search rules

same_length : tie.Need-shape_of-out
same_length c = search rules

returns : tie.Need-returns
unfolding lean_prints
returns c = c.report_by.ensures

pub report_lean_spec : {M : Type 1} → statement M
report_lean_spec = tie.close (tie.spec report-by-requires same_length returns)
