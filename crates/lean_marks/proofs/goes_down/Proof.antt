-- `goes_down` meets its contract: each arm names an axis, and says whether that one goes down. Assumes nothing.
use Rattle.paper.specs.Query.{Axis, self, child, descendant_or_self, ancestor_or_self, descendant, ancestor, following_sibling, preceding_sibling, following, preceding}
use Rattle.lean_marks.proofs.Telling.{down-number, down_none}
use Rattle.lean_marks.proofs.goes_down.Statement.{statement}
use Rattle.lean_marks.proofs.goes_down.Tie as tie
use Rattle.lean_marks.proofs.goes_down.Reads as reads
use Rattle.lean_marks.proofs.goes_down.Lts as lts

returns : tie.Need-returns-in-0
returns c = down-number self _ c.in-0.is

returns-2 : tie.Need-returns-in-1
returns-2 c = down-number child _ c.in-1.is

returns-3 : tie.Need-returns-in-2
returns-3 c = down-number Axis.parent _ c.in-2.is

returns-4 : tie.Need-returns-in-3
returns-4 c = down-number descendant_or_self _ c.in-3.is

returns-5 : tie.Need-returns-in-4
returns-5 c = down-number ancestor_or_self _ c.in-4.is

returns-6 : tie.Need-returns-in-5
returns-6 c = down-number descendant _ c.in-5.is

returns-7 : tie.Need-returns-in-6
returns-7 c = down-number ancestor _ c.in-6.is

returns-8 : tie.Need-returns-in-7
returns-8 c = down-number following_sibling _ c.in-7.is

returns-9 : tie.Need-returns-in-8
returns-9 c = down-number preceding_sibling _ c.in-8.is

returns-10 : tie.Need-returns-in-9
returns-10 c = down-number following _ c.in-9.is

returns-11 : tie.Need-returns-in-10
returns-11 c = down-number preceding _ c.in-10.is

returns-12 : tie.Need-returns-in_default
returns-12 c = down_none _ c.in_default.in_default-own.rest

pub goes_down_spec : {M : Type 1} → statement M
goes_down_spec =
    tie.close
    (tie.spec
    returns
    returns-2
    returns-3
    returns-4
    returns-5
    returns-6
    returns-7
    returns-8
    returns-9
    returns-10
    returns-11
    returns-12)
