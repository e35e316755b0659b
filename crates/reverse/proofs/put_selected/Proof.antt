-- `reverse::put_selected` meets its contract: the `or` items, then the reverses. Assumes nothing.
use Prim.Native.Nat.{ℕ, ◌+◌, ◌-◌}
use native.Mathlib.Omega.{arith}
use mathlib.Core.Path.{sym, ◌∙◌, ap}
use mathlib.Core.List.{List}
use lib.ListN.{length, replicate, length-append, length-replicate}
use Rattle.paper.specs.Items.{or_item, decode}
use Rattle.item.specs.Placed.{placed}
use Rattle.reverse.specs.Reverses.{reversed_items, each_got}
use Rattle.item.proofs.Placing.{same_size, placed_after}
use Rattle.reverse.proofs.Selected.{selected_parts}
use borrow.Author.Rules.{rules}
use Rattle.reverse.proofs.put_selected.Statement.{statement}
use Rattle.reverse.proofs.put_selected.Tie as tie

-- Of what is lent nothing is read yet.
abbrev begun-of : tie.After-slice_known-1 → tie.Start
begun-of c = c.before.before

-- The items of `or` are put,
abbrev lent_of : tie.After-put_same → tie.After-slice_known-1
lent_of c = c.before.before

-- and the reverses behind them.
abbrev joined_of : tie.After-put_reverses → tie.After-put_same
joined_of c = c.before.before.before.before

sub-put-same : tie.Need-overflow_sub-paths
sub-put-same c =
    let begun = begun-of c.before in
    let a = begun.args in
    let inner = a.inner.now in
    let old = a.out.now in
    let parts = selected_parts inner a.paths begun.requires.0 begun.requires.2 in
    let ors = replicate (a.paths - 1) or_item in
    let n = length-append ors (each_got reversed_items (decode inner)) in
    let k = length-replicate (a.paths - 1) or_item in
    let whole = ap length parts.1 in
    omega (arith, parts.0)

put-same-requires : tie.Need-put_same-requires
put-same-requires c κs =
    let begun = begun-of c.before in
    let a = begun.args in
    let inner = a.inner.now in
    let old = a.out.now in
    let parts = selected_parts inner a.paths begun.requires.0 begun.requires.2 in
    let ors = replicate (a.paths - 1) or_item in
    let n = length-append ors (each_got reversed_items (decode inner)) in
    let k = length-replicate (a.paths - 1) or_item in
    let whole = ap length parts.1 in
    omega (arith, begun.requires.3)

sub-put-reverses : tie.Need-overflow_sub-paths-2
sub-put-reverses c =
    let begun = begun-of (lent_of c.before.before.before) in
    let a = begun.args in
    let inner = a.inner.now in
    let old = a.out.now in
    let parts = selected_parts inner a.paths begun.requires.0 begun.requires.2 in
    let ors = replicate (a.paths - 1) or_item in
    let n = length-append ors (each_got reversed_items (decode inner)) in
    let k = length-replicate (a.paths - 1) or_item in
    let whole = ap length parts.1 in
    omega (arith, parts.0)

add-put-reverses : tie.Need-overflow_add-at
add-put-reverses c =
    let begun = begun-of (lent_of c.before.before.before) in
    let a = begun.args in
    let inner = a.inner.now in
    let old = a.out.now in
    let parts = selected_parts inner a.paths begun.requires.0 begun.requires.2 in
    let ors = replicate (a.paths - 1) or_item in
    let n = length-append ors (each_got reversed_items (decode inner)) in
    let k = length-replicate (a.paths - 1) or_item in
    let whole = ap length parts.1 in
    omega (arith, begun.requires.3)

put-reverses-requires : tie.Need-put_reverses-requires
put-reverses-requires c κs =
    let begun = begun-of (lent_of c.before.before.before) in
    let a = begun.args in
    let inner = a.inner.now in
    let old = a.out.now in
    let parts = selected_parts inner a.paths begun.requires.0 begun.requires.2 in
    let ors = replicate (a.paths - 1) or_item in
    let n = length-append ors (each_got reversed_items (decode inner)) in
    let k = length-replicate (a.paths - 1) or_item in
    let whole = ap length parts.1 in
    (begun.requires.0, begun.requires.1, omega (arith, begun.requires.3, same_size ors old c.put_same.new.out a.at c.put_same.ensures (omega (arith, begun.requires.3))))

same_length : tie.Need-shape_of-out
same_length c = search rules

returns : tie.Need-returns
returns c =
    let joined = joined_of c.before.before in
    let begun = begun-of (lent_of joined) in
    let a = begun.args in
    let inner = a.inner.now in
    let old = a.out.now in
    let parts = selected_parts inner a.paths begun.requires.0 begun.requires.2 in
    let ors = replicate (a.paths - 1) or_item in
    let n = length-append ors (each_got reversed_items (decode inner)) in
    let k = length-replicate (a.paths - 1) or_item in
    let whole = ap length parts.1 in
    c.put_reverses.ensures ∙ ap (placed (each_got reversed_items (decode inner)) (a.at + (a.paths - 1))) joined.put_same.ensures ∙
    placed_after ors (each_got reversed_items (decode inner)) old a.at (a.at + (a.paths - 1)) (omega (arith, begun.requires.3)) (omega arith) ∙
    ap (λ (x : List ℕ). placed x a.at old) (sym parts.1)

pub put_selected_spec : {M : Type 1} → statement M
put_selected_spec =
    tie.close
    (tie.spec
    sub-put-same
    put-same-requires
    sub-put-reverses
    add-put-reverses
    put-reverses-requires
    same_length
    returns)
