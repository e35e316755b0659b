-- `index` meets its contract: a bad line is the first, and a good one is settled with those before it.
use Rattle.std.proofs.Common.{arith, add-one, ◌+◌, ◌∙◌, sym, refl, set, length-set}
use lib.Seq.{get_or-set_same}
use Rattle.names.proofs.Upto.{at_first, since_entry, at_last, at_fault, at_next, ends_at, room, has_key, keyed_next}
use Rattle.names.proofs.index.Goals as goal

pub loop-start-init : goal.loop-start-init
loop-start-init c =
    let a = c.args in
    record {
      upto = at_first a.list.now (set a.starts.now 0 0) (get_or-set_same a.starts.now 0 0 0 (omega arith)) (length-set a.starts.now 0 0 ∙ c.requires.starts_len);
      keyed = λ v l. absurd (omega arith);
      long = refl;
    }

pub returns-then-bad_line : goal.returns-then-bad_line
returns-then-bad_line c =
    let l = c.loop-start in
    let ends = ends_at c.args.list.now l.start c.line_len.result l.invariant.upto.most c.line_len.ensures in
    at_fault (l.start + c.line_len.result) (since_entry c.args.starts.now l.invariant.upto) c.loop-start-test.true ends (sym c.bad_line.ensures ∙ c.if-bad_line.true)

pub key-requires : goal.key-requires
key-requires c =
    let l = c.loop-start in
    let ends = ends_at c.args.list.now l.start c.line_len.result l.invariant.upto.most c.line_len.ensures in
    has_key (l.start + c.line_len.result) l.invariant.upto c.loop-start-test.true ends (sym c.bad_line.ensures ∙ c.if-bad_line.false)

pub bounds-starts-count : goal.bounds-starts-count
bounds-starts-count c =
    let l = c.loop-start in
    let ends = ends_at c.args.list.now l.start c.line_len.result l.invariant.upto.most c.line_len.ensures in
    omega (arith, room (l.start + c.line_len.result) l.invariant.upto c.loop-start-test.true ends (sym c.bad_line.ensures ∙ c.if-bad_line.false))

pub loop-start-preserved : goal.loop-start-preserved
loop-start-preserved c =
    let l = c.loop-start in
    let end = l.start + c.line_len.result in
    let ends = ends_at c.args.list.now l.start c.line_len.result l.invariant.upto.most c.line_len.ensures in
    let good = sym c.bad_line.ensures ∙ c.if-bad_line.false in
    rw (add-one l.count, add-one end, c.key.ensures)
    record {
      upto = at_next end l.invariant.upto c.loop-start-test.true ends good;
      keyed = keyed_next end l.invariant.upto c.loop-start-test.true ends good l.keys l.invariant.long l.invariant.keyed;
      long = length-set l.keys l.count _ ∙ l.invariant.long;
    }

pub returns : goal.returns
returns c = at_last (since_entry c.args.starts.now c.loop-start.invariant.upto) (omega arith)
