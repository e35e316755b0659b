-- `report::report` meets its contract: what is printed by the composition is what the program prints. Assumes nothing.
use borrow.Author.Rules.{rules}
use Rattle.paper.specs.Program.{queries_print, texts_print, program_prints}
use Rattle.query_report.specs.Ways.{queries_print_by}
use Rattle.text_report.specs.Texts.{texts_print_by}
use Rattle.report.specs.Printing.{program_prints_by}
use Rattle.report.proofs.report.Statement.{statement}
use Rattle.report.proofs.report.Tie as tie

report-by-requires : tie.Need-report_by-requires
report-by-requires c κs = search rules

same_length : tie.Need-shape_of-out
same_length c = search rules

returns : tie.Need-returns
unfolding program_prints program_prints_by texts_print texts_print_by queries_print queries_print_by
returns c = c.report_by.ensures

pub report_spec : {M : Type 1} → statement M
report_spec = tie.close (tie.spec report-by-requires same_length returns)
