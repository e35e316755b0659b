-- The innermost open element is known by what is still to be put, and its end tag is the next of that.
use Rattle.std.proofs.Common.{sym, subst, arith}
use Rattle.put_tags.specs.Lending.{MarkedText}
use Rattle.put_tags.specs.Tags.{Open, Closable}
use Rattle.put_tags.proofs.Closing.{known, closing_more, closing_done, closing_room}
use Rattle.put_tags.proofs.Given.close.Goals as goal

pub tag_at-at-requires : goal.tag_at-at-requires
tag_at-at-requires c =
    let i = c.self.inside in
    let asked : Closable i.text.now i.parents.now i.begins.now c.args.pen c.args.top c.args.up =
    subst (λ (m : MarkedText). Closable m.text m.parents m.begins c.args.pen c.args.top c.args.up) (sym c.self.view_is) c.requires in
    let going = c.loop-inner.invariant asked.bytes asked.chain in
    let stands = known i.text.now i.parents.now i.begins.now going.left c.loop-inner-test.true in
    (stands.place, omega (arith, asked.room), omega (arith, asked.room, closing_room i.text.now i.parents.now i.begins.now going), omega arith)

pub loop-inner-smaller : goal.loop-inner-smaller
loop-inner-smaller c =
    let i = c.self.inside in
    let asked : Closable i.text.now i.parents.now i.begins.now c.args.pen c.args.top c.args.up =
    subst (λ (m : MarkedText). Closable m.text m.parents m.begins c.args.pen c.args.top c.args.up) (sym c.self.view_is) c.requires in
    (known i.text.now i.parents.now i.begins.now (c.loop-inner.invariant asked.bytes asked.chain).left c.loop-inner-test.true).falls

pub loop-inner-preserved : goal.loop-inner-preserved
loop-inner-preserved c bytes o =
    let i = c.self.inside in
    closing_more i.text.now i.parents.now i.begins.now (c.loop-inner.invariant bytes o) c.loop-inner-test.true c.tag_at-at.ensures

pub returns : goal.returns
returns c bytes o =
    let i = c.self.inside in
    let inside : Open i.text.now i.parents.now i.begins.now c.args.top c.args.up bytes =
    subst (λ (m : MarkedText). Open m.text m.parents m.begins c.args.top c.args.up bytes) (sym c.self.view_is) o in
    closing_done i.text.now i.parents.now i.begins.now (c.loop-inner.invariant bytes inside) c.loop-inner-test.false
