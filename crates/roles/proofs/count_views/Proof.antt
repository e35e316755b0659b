-- `roles::count_views` meets its contract: each turn passes over one line, and the last must be ended. Assumes nothing.
use Prim.Native.Nat.{ℕ, ◌-◌, ◌≤◌, ◌<◌}
use native.Mathlib.Omega.{arith}
use mathlib.Core.Path.{◌≡◌, sym, subst}
use mathlib.Core.List.{List}
use lib.ListN.{length, drop, length-drop}
use Rattle.paper.specs.Limits.{text_limit}
use Rattle.lines.specs.Lines.{Ends}
use Rattle.view_union.proofs.Viewing.{whole_part}
use Rattle.roles.proofs.Counting.{Counting, none_counted, counted_open, one_counted, all_counted}
use borrow.Author.Rules.{rules}
use Rattle.roles.proofs.count_views.Statement.{statement}
use Rattle.roles.proofs.count_views.Tie as tie

abbrev invariant-loop : tie.invariant-loop-at
invariant-loop views at₀ count₀ at count = Counting views at count

abbrev decreases-loop : tie.decreases-loop-at
decreases-loop views at₀ count₀ at count = length views - at

-- What is lent, and that it is short.
abbrev views : tie.Start invariant-loop decreases-loop → List ℕ
views s = s.args.views.now

few : (s : tie.Start invariant-loop decreases-loop) → length (views s) ≤ text_limit
few s = s.requires

-- A turn, and its line.
abbrev begun : tie.At-loop-at invariant-loop decreases-loop → tie.Start invariant-loop decreases-loop
begun c = c.before.before

more : (c : tie.After-line_end-end invariant-loop decreases-loop) → c.loop-at.at < length (views (begun c.before.before.before))
more c = omega (arith, c.loop-at-test.true)

ends : (c : tie.After-line_end-end invariant-loop decreases-loop) → Ends (drop c.loop-at.at (views (begun c.before.before.before))) c.line_end-end.result
ends c = subst (λ part. Ends part c.line_end-end.result) (whole_part (views (begun c.before.before.before)) c.loop-at.at) c.line_end-end.ensures

long : (c : tie.After-line_end-end invariant-loop decreases-loop) → length (drop c.loop-at.at (views (begun c.before.before.before))) ≡ length (views (begun c.before.before.before)) - c.loop-at.at
long c = length-drop c.loop-at.at (views (begun c.before.before.before))

within : (c : tie.After-line_end-end invariant-loop decreases-loop) → c.line_end-end.result ≤ length (views (begun c.before.before.before))
within c = omega (arith, (ends c).within, long c)

loop-holds : tie.Need-loop-at-init invariant-loop decreases-loop
loop-holds c = none_counted _

sub-rest : tie.Need-slice_bounds-rest-count invariant-loop decreases-loop
sub-rest c = omega arith

part-rest-start : tie.Need-slice_bounds-rest-start invariant-loop decreases-loop
part-rest-start c = omega arith

part-rest-end : tie.Need-slice_bounds-rest-end invariant-loop decreases-loop
part-rest-end c = omega arith

line-end-requires : tie.Need-line_end-end-requires invariant-loop decreases-loop
line-end-requires c κs = search rules

add-result : tie.Need-overflow_add-result invariant-loop decreases-loop
add-result c = omega arith

returns : tie.Need-returns-then-end-rest invariant-loop decreases-loop
returns c = let turn = c in sym (counted_open (views (begun turn.before.before.before.before)) turn.loop-at.at turn.loop-at.count turn.loop-at.invariant (more c.before) _ (ends c.before) (omega (arith, c.if-end-rest.true, long c.before)))

add-count : tie.Need-overflow_add-count invariant-loop decreases-loop
add-count c = omega (arith, c.loop-at.invariant.few, c.loop-at.invariant.inside, few (begun c.before.before.before.before))

add_at : tie.Need-overflow_add-at invariant-loop decreases-loop
add_at c = omega (arith, within c.before, few (begun c.before.before.before.before))

add-at-2 : tie.Need-overflow_add-at-in-loop-at invariant-loop decreases-loop
add-at-2 c = omega (arith, within c.before, c.loop-at.invariant.inside, few (begun c.before.before.before.before))

loop-less : tie.Need-loop-at-smaller invariant-loop decreases-loop
loop-less c = omega (arith, more c.before)

loop-again : tie.Need-loop-at-preserved invariant-loop decreases-loop
loop-again c = let turn = c in one_counted (views (begun turn.before.before.before.before)) turn.loop-at.at turn.loop-at.count turn.loop-at.invariant (more c.before) _ (ends c.before) (λ e. c.if-end-rest.false (omega (arith, e, long c.before)))

returns-2 : tie.Need-returns invariant-loop decreases-loop
returns-2 c = let turn = c in all_counted (views (begun turn.before)) turn.loop-at.at turn.loop-at.count turn.loop-at.invariant (omega (arith, c.loop-at-test.false))

pub count_views_spec : {M : Type 1} → statement M
count_views_spec =
    tie.close
    (tie.spec
    invariant-loop
    decreases-loop
    loop-holds
    sub-rest
    part-rest-start
    part-rest-end
    line-end-requires
    add-result
    returns
    add-count
    add_at
    add-at-2
    loop-less
    loop-again
    returns-2)
