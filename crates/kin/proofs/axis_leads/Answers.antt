-- `kin::axis_leads`: an axis is known by its number, and the column falls up to the node that is climbed from.
use Rattle.std.proofs.Common.{◌≡◌, arith}
use Rattle.paper.specs.Document.{table_of}
use Rattle.paper.specs.Query.{Axis, child, following_sibling, preceding_sibling}
use Rattle.paper.specs.Selection.{leads}
use Rattle.paper.proofs.Axes.{of_number}
use Rattle.kin.proofs.Climbing.{falls_up}
use Rattle.kin.proofs.axis_leads.Goals as goal

pub is_over-requires : goal.is_over-requires
is_over-requires c = falls_up _ _ c.requires.0 (omega arith)

pub is_over-requires-in-4 : goal.is_over-requires-in-4
is_over-requires-in-4 c = falls_up _ _ c.requires.0 (omega arith)

pub returns-in-1 : goal.returns-in-1
returns-in-1 c =
    let d = c.args in
    λ kinds a e.
    of_number (λ b. c.is_child.result ≡ leads (table_of d.parent.now kinds) b d.i d.j) child a c.in-1.is e (c.is_child.ensures kinds)

pub returns-in-2 : goal.returns-in-2
returns-in-2 c =
    let d = c.args in
    λ kinds a e.
    of_number (λ b. c.is_child-in-2.result ≡ leads (table_of d.parent.now kinds) b d.i d.j) Axis.parent a c.in-2.is e (c.is_child-in-2.ensures kinds)

pub returns-in-7 : goal.returns-in-7
returns-in-7 c =
    let d = c.args in
    λ kinds a e.
    of_number (λ b. c.is_sibling.result ≡ leads (table_of d.parent.now kinds) b d.i d.j) following_sibling a c.in-7.is e (c.is_sibling.ensures kinds)

pub returns-in-8 : goal.returns-in-8
returns-in-8 c =
    let d = c.args in
    λ kinds a e.
    of_number (λ b. c.is_sibling-in-8.result ≡ leads (table_of d.parent.now kinds) b d.i d.j) preceding_sibling a c.in-8.is e (c.is_sibling-in-8.ensures kinds)
