-- `item::guarded` meets its contract: each arm names an axis, and says whether that one is guarded. Assumes nothing.
use Rattle.paper.specs.Query.{Axis, self, child, descendant_or_self, ancestor_or_self, descendant, ancestor, following_sibling, preceding_sibling, following, preceding}
use Rattle.item.proofs.GuardedAxes.{guarded-number, guarded_none}
use Rattle.item.proofs.guarded.Statement.{statement}
use Rattle.item.proofs.guarded.Tie as tie

returns : tie.Need-returns-in-0
returns c = guarded-number self _ c.in-0.is

returns-2 : tie.Need-returns-in-1
returns-2 c = guarded-number child _ c.in-1.is

returns-3 : tie.Need-returns-in-2
returns-3 c = guarded-number Axis.parent _ c.in-2.is

returns-4 : tie.Need-returns-in-3
returns-4 c = guarded-number descendant_or_self _ c.in-3.is

returns-5 : tie.Need-returns-in-4
returns-5 c = guarded-number ancestor_or_self _ c.in-4.is

returns-6 : tie.Need-returns-in-5
returns-6 c = guarded-number descendant _ c.in-5.is

returns-7 : tie.Need-returns-in-6
returns-7 c = guarded-number ancestor _ c.in-6.is

returns-8 : tie.Need-returns-in-7
returns-8 c = guarded-number following_sibling _ c.in-7.is

returns-9 : tie.Need-returns-in-8
returns-9 c = guarded-number preceding_sibling _ c.in-8.is

returns-10 : tie.Need-returns-in-9
returns-10 c = guarded-number following _ c.in-9.is

returns-11 : tie.Need-returns-in-10
returns-11 c = guarded-number preceding _ c.in-10.is

returns-12 : tie.Need-returns-in_default
returns-12 c = guarded_none _ c.in_default.in_default-own.rest

pub guarded_spec : {M : Type 1} → statement M
guarded_spec = tie.close (tie.spec returns returns-2 returns-3 returns-4 returns-5 returns-6 returns-7 returns-8 returns-9 returns-10 returns-11 returns-12)
