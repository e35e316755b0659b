-- Where the answer is a value the kept lines are copied, and where it is a refusal nothing.
use Rattle.std.proofs.Common.{length, sym, refl, arith, rules}
use Rattle.xml_lines.specs.Kept.{columns, empty}
use Rattle.xml_lines.proofs.Answered.{accepted, kept_room, copied_exit, refused_exit}
use Rattle.read_listed.proofs.fill.Goals as goal

-- Before the text is judged nothing is kept.
pub judge-judged-requires-clause-nothing_kept : goal.judge-judged-requires-clause-nothing_kept
unfolding empty
judge-judged-requires-clause-nothing_kept c = refl

pub returns-in_err-count-clause-result_value : goal.returns-in_err-count-clause-result_value
returns-in_err-count-clause-result_value c = let said = c.in_err-count.ensures _ _ _ c.judge-judged.ensures in search rules

pub returns-in_err-count-clause-end_after : goal.returns-in_err-count-clause-end_after
returns-in_err-count-clause-end_after c =
    let unchanged = refused_exit c.args.text.now c.args.names.now (columns c.args.parent.now c.args.kind.now c.args.begin.now c.args.end.now) c.in_err-count.field-0.0 in search rules

pub copy_out-requires-clause-kept : goal.copy_out-requires-clause-kept
copy_out-requires-clause-kept c =
    let all = accepted _ _ c.judge-judged.new.lines (length c.args.parent.now) _ _ c.judge-judged.ensures (sym (c.in_ok-count.ensures _ _ _ c.judge-judged.ensures)) in
    let room = kept_room all in (all.few, room.0, room.1, room.2, room.3)

pub copy_out-requires-clause-lent : goal.copy_out-requires-clause-lent
copy_out-requires-clause-lent c =
    let all = accepted _ _ c.judge-judged.new.lines (length c.args.parent.now) _ _ c.judge-judged.ensures (sym (c.in_ok-count.ensures _ _ _ c.judge-judged.ensures)) in
    let long = c.requires.kind_len in (all.fits, omega (arith, all.fits, long.0), omega (arith, all.fits, long.1), omega (arith, all.fits, long.2))

pub returns-clause-end_after : goal.returns-clause-end_after
returns-clause-end_after c =
    let all = accepted _ _ c.judge-judged.new.lines (length c.args.parent.now) _ _ c.judge-judged.ensures (sym (c.in_ok-count.ensures _ _ _ c.judge-judged.ensures)) in
    let wrote = c.copy_out.ensures in
    copied_exit _ _ _ (columns c.args.parent.now c.args.kind.now c.args.begin.now c.args.end.now) _ _ _ _ _ _ all wrote.parent_after wrote.kind_after wrote.begin_after wrote.end_after
