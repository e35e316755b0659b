-- `down_at` meets its contract: behind the last step what follows is told, elsewhere the next step says it. Assumes nothing.
use mathlib.Core.Path.{sym, ◌∙◌, ap}
use Rattle.lean_marks.specs.Turns.{down_at}
use Rattle.lean_marks.proofs.Telling.{down_some, down_past}
use borrow.Author.Rules.{rules}
use Rattle.lean_marks.proofs.down_at.Statement.{statement}
use Rattle.lean_marks.proofs.down_at.Tie as tie
use Rattle.lean_marks.proofs.down_at.Reads as reads
use Rattle.lean_marks.proofs.down_at.Lts as lts
use Rattle.lean_marks.proofs.down_item.Reads as down-item-reads

returns : tie.Need-returns-then-left-eq0
returns c = let a = c.args in sym (ap (λ n. down_at a.items.now a.next n a.last) c.if-left-eq0.true)

mul-down-item : tie.Need-offset_bounds-items-next
mul-down-item c = search rules

shared-slice-read-down-item : tie.Need-bounds-items-next
shared-slice-read-down-item c = search rules

down-item-requires : tie.Need-down_item-requires
down-item-requires c κs = search rules

returns-2 : tie.Need-returns-then-next-items
returns-2 c = let a = c.args in
    c.down_item.ensures ∙ down_some a.items.now a.next a.left a.last c.if-left-eq0.false c.if-next-items.true

returns-3 : tie.Need-returns
returns-3 c = let a = c.args in down_past a.items.now a.next a.left a.last c.if-left-eq0.false c.if-next-items.false

pub down_at_spec : {M : Type 1} → statement M
down_at_spec =
    tie.close
    (tie.spec
    returns
    mul-down-item
    shared-slice-read-down-item
    down-item-requires
    returns-2
    returns-3)
