-- `view_union::join` meets its contract: a view that is not named changes nothing, one with no room is counted, another is put behind the union. Assumes nothing.
use Prim.Native.Nat.{ℕ}
use native.Mathlib.Omega.{arith}
use mathlib.Core.List.{List}
use Rattle.view_union.proofs.Unions.{join_none, join_over, join_some}
use borrow.Author.Rules.{rules}
use Rattle.view_union.proofs.join.Statement.{statement}
use Rattle.view_union.proofs.join.Tie as tie

-- What is lent.
abbrev items : tie.Start → List ℕ
items s = s.args.items.now

abbrev old : tie.Start → List ℕ
old s = s.args.union.now

-- The view is named.
abbrev begun : tie.Else-mask-eq0 → tie.Start
begun c = c.before.before.before

returns : tie.Need-returns-then-mask-eq0
returns c = let start = c in join_none (items start.before.before.before) (old start.before.before.before) start.args.mask start.args.size c.if-mask-eq0.true

add-end : tie.Need-overflow_add-end
add-end c = search rules

returns-2 : tie.Need-returns-then-union-end
returns-2 c = let start = begun c.before in join_over (items start) (old start) start.args.mask start.args.size c.if-mask-eq0.false (omega (arith, c.if-union-end.true))

put-items-requires : tie.Need-put_items-requires
put-items-requires c κs = search rules

same_length : tie.Need-shape_of-union
same_length c = search rules

returns-3 : tie.Need-returns
returns-3 c =
    let last = c in
    let start = begun last.before.before.before.before.before in
    join_some (items start) (old start) start.args.mask start.args.size last.if-mask-eq0.false _ (omega (arith, last.if-union-end.false)) c.put_items.ensures

pub join_spec : {M : Type 1} → statement M
join_spec = tie.close (tie.spec returns add-end returns-2 put-items-requires same_length returns-3)
