-- `roles::judge_list` meets its contract: what reading `/` answers is decided by the list alone. Assumes nothing.
use mathlib.Core.Path.{◌≡◌, ◌∙◌}
use Rattle.roles.proofs.Answering.{list_judged}
use borrow.Author.Rules.{rules}
use Rattle.roles.proofs.judge_list.Statement.{statement}
use Rattle.roles.proofs.judge_list.Tie as tie

slice-aggregate-read : tie.Need-slice_bounds-read-end-2
slice-aggregate-read c = search rules

read-requires : tie.Need-read-requires
read-requires c κs = search rules

returns : tie.Need-returns
returns c = c.read.ensures.0 ∙ list_judged _

pub judge_list_spec : {M : Type 1} → statement M
judge_list_spec = tie.close (tie.spec slice-aggregate-read read-requires returns)
