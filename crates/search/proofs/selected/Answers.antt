-- `search::selected`: a path more leads to the node, or the others are left to read.
use Rattle.std.proofs.Common.{ℕ, ◌+◌, length, drop, sym, ◌∙◌, subst, arith}
use borrow.Author.Tests.{eq-eqb, ne_eqb}
use Rattle.paper.specs.Limits.{bracket_limit}
use Rattle.paper.specs.Items.{take_steps, take_within}
use Rattle.paper.specs.Document.{table_of}
use Rattle.owed.proofs.Passing.{owes_steps}
use Rattle.search.specs.Searches.{Fits}
use Rattle.search.proofs.Steps.{skip_ends}
use Rattle.search.proofs.Selecting.{NextPath, paths_begin, next-path, path_hit, path_missed, paths_over, unrooted}
use Rattle.search.proofs.selected.Goals as goal

pub returns-then-given-ne1 : goal.returns-then-given-ne1
returns-then-given-ne1 c = let a = c.args in λ q e. unrooted (table_of a.parent.now a.kind.now) a.given.now a.items.now a.wanted (ne_eqb _ 1 c.if-given-ne1.true) q

pub loop-place-init : goal.loop-place-init
loop-place-init c = let a = c.args in paths_begin (table_of a.parent.now a.kind.now) a.given.now a.items.now a.wanted c.requires.wanted_in_bounds.3

pub path-requires-clause-fits : goal.path-requires-clause-fits
path-requires-clause-fits c =
    let a = c.args in
    let l = c.loop-place in
    let pre = c.requires.wanted_in_bounds in
    let next : NextPath a.items.now l.place (length a.stand.now) l.invariant.ahead c.owes-count.result =
    next-path (table_of a.parent.now a.kind.now) a.given.now a.items.now a.wanted (length a.stand.now) pre.1 pre.2 l.place l.invariant (omega (arith, c.loop-place-test.true))
    (λ count p found. subst (NextPath a.items.now l.place (length a.stand.now) l.invariant.ahead) (sym (c.owes-count.ensures.0 ∙ owes_steps _ count p)) found) in
    subst (λ (r : ℕ). Fits a.items.now (l.place + 1) r (take_steps (take_within bracket_limit) c.owes-count.result (drop (l.place + 1) a.items.now))) (sym l.auto.stand) next.steps

pub returns-then-path : goal.returns-then-path
returns-then-path c =
    let a = c.args in
    let l = c.loop-place in
    let pre = c.requires.wanted_in_bounds in
    let next : NextPath a.items.now l.place (length a.stand.now) l.invariant.ahead c.owes-count.result =
    next-path (table_of a.parent.now a.kind.now) a.given.now a.items.now a.wanted (length a.stand.now) pre.1 pre.2 l.place l.invariant (omega (arith, c.loop-place-test.true))
    (λ count p found. subst (NextPath a.items.now l.place (length a.stand.now) l.invariant.ahead) (sym (c.owes-count.ensures.0 ∙ owes_steps _ count p)) found) in
    path_hit (table_of a.parent.now a.kind.now) a.given.now a.items.now a.wanted (length a.stand.now) pre.1 pre.2 l.place l.invariant pre.0 c.owes-count.result next c.path.result c.path.ensures
    c.if-path.true (eq-eqb _ 1 c.if-given-ne1.false)

pub loop-place-preserved : goal.loop-place-preserved
loop-place-preserved c =
    let a = c.args in
    let l = c.loop-place in
    let pre = c.requires.wanted_in_bounds in
    let next : NextPath a.items.now l.place (length a.stand.now) l.invariant.ahead c.owes-count.result =
    next-path (table_of a.parent.now a.kind.now) a.given.now a.items.now a.wanted (length a.stand.now) pre.1 pre.2 l.place l.invariant (omega (arith, c.loop-place-test.true))
    (λ count p found. subst (NextPath a.items.now l.place (length a.stand.now) l.invariant.ahead) (sym (c.owes-count.ensures.0 ∙ owes_steps _ count p)) found) in
    let f = next.steps in
    path_missed (table_of a.parent.now a.kind.now) a.given.now a.items.now a.wanted (length a.stand.now) pre.1 pre.2 l.place l.invariant pre.0 c.owes-count.result next c.path.result c.path.ensures
    c.if-path.false c.skip-place.result (skip_ends _ _ bracket_limit _ _ f.inside ((f.what, f.rest), f.reads) c.skip-place.ensures)

pub returns : goal.returns
returns c =
    let a = c.args in
    paths_over (table_of a.parent.now a.kind.now) a.given.now a.items.now a.wanted c.loop-place.place (omega (arith, c.loop-place-test.false)) c.loop-place.invariant (eq-eqb _ 1 c.if-given-ne1.false)
