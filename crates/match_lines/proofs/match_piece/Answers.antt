-- One law a piece.
use Rattle.std.proofs.Common.{suc, subst, arith}
use Rattle.paper.specs.Names.{names_of, number_of}
use Rattle.xml.specs.Pieces.{name_at}
use Rattle.line_tests.specs.Telling.{Tells, Has}
use Rattle.line_tests.proofs.Tests.{tells_both}
use Rattle.match_lines.proofs.Pieces.{faced, start_room, start_comes, empty_comes, end_open, end_far, end_comes, text_comes}
use Rattle.match_lines.proofs.match_piece.Goals as goal

-- A START TAG.
pub find_name-found-requires : goal.find_name-found-requires
find_name-found-requires c = (faced c.requires.facing c.in-Start.is).moves.1.0

pub has_name-requires : goal.has_name-requires
has_name-requires c = c.find_name-found.ensures.few

pub narrow-requires : goal.narrow-requires
narrow-requires c = omega (arith, c.requires.facing.inside, c.requires.text_len_bound.0)

pub offset_bounds-open-depth : goal.offset_bounds-open-depth
offset_bounds-open-depth c = omega (arith, start_room _ _ _ _ _ c.requires.text_len_bound.1 _ _ (faced c.requires.facing c.in-Start.is) c.requires.text_len_bound.0)

pub bounds-open-depth : goal.bounds-open-depth
bounds-open-depth c = start_room _ _ _ _ _ c.requires.text_len_bound.1 _ _ (faced c.requires.facing c.in-Start.is) c.requires.text_len_bound.0

pub overflow_add-result : goal.overflow_add-result
overflow_add-result c = omega (arith, start_room _ _ _ _ _ c.requires.text_len_bound.1 _ _ (faced c.requires.facing c.in-Start.is) c.requires.text_len_bound.0)

pub narrow-requires-in-Start : goal.narrow-requires-in-Start
narrow-requires-in-Start c = let h = c.requires.facing in omega (arith, h.counts.nodes, h.counts.few, h.inside, c.requires.text_len_bound.0)

pub overflow_add-result-in-Start : goal.overflow_add-result-in-Start
overflow_add-result-in-Start c = let h = c.requires.facing in omega (arith, h.counts.nodes, h.counts.few, h.inside, c.requires.text_len_bound.0)

pub returns-in-Start-clause-comes : goal.returns-in-Start-clause-comes
returns-in-Start-clause-comes c =
    (start_comes _ _ _ _ _ c.requires.text_len_bound.1 _ _ (faced c.requires.facing c.in-Start.is) c.requires.text_len_bound.0 _ _ c.narrow.ensures c.narrow-in-Start.ensures _
    (tells_both _ _ c.begins.ensures (c.has_name.ensures (number_of (names_of c.args.names.now)) (name_at c.args.text.now (suc c.args.so_far.at)) c.find_name-found.ensures.numbered))).0

pub returns-in-Start-clause-rises : goal.returns-in-Start-clause-rises
returns-in-Start-clause-rises c = let t = (faced c.requires.facing c.in-Start.is).moves.1 in omega (arith, t.1, t.2)

-- AN EMPTY ELEMENT.
pub find_name-found-requires-in-Empty : goal.find_name-found-requires-in-Empty
find_name-found-requires-in-Empty c = (faced c.requires.facing c.in-Empty.is).moves.1.0

pub has_name-requires-in-Empty : goal.has_name-requires-in-Empty
has_name-requires-in-Empty c = c.find_name-found-in-Empty.ensures.few

pub overflow_add-result-in-Empty : goal.overflow_add-result-in-Empty
overflow_add-result-in-Empty c = let h = c.requires.facing in omega (arith, h.counts.nodes, h.counts.few, h.inside, c.requires.text_len_bound.0)

pub returns-in-Empty-clause-comes : goal.returns-in-Empty-clause-comes
returns-in-Empty-clause-comes c =
    (empty_comes _ _ _ _ _ c.requires.text_len_bound.1 _ _ (faced c.requires.facing c.in-Empty.is) _
    (tells_both _ _
    (tells_both _ _ c.begins-in-Empty.ensures (c.has_name-in-Empty.ensures (number_of (names_of c.args.names.now)) (name_at c.args.text.now (suc c.args.so_far.at)) c.find_name-found-in-Empty.ensures.numbered))
    c.ends_at-ended.ensures)).0

pub returns-in-Empty-clause-rises : goal.returns-in-Empty-clause-rises
returns-in-Empty-clause-rises c = let t = (faced c.requires.facing c.in-Empty.is).moves.1 in omega (arith, t.1, t.2)

-- AN END TAG.
pub overflow_sub-result : goal.overflow_sub-result
overflow_sub-result c = end_open _ _ _ _ _ c.requires.text_len_bound.1 _ (faced c.requires.facing c.in-End.is)

pub returns-in-End-clause-comes : goal.returns-in-End-clause-comes
returns-in-End-clause-comes c =
    (end_comes _ _ _ _ _ c.requires.text_len_bound.1 _ (faced c.requires.facing c.in-End.is) _ _
    (subst (λ n. Tells c.ends_at-ended-in-End.result (Has c.args.lent.now.ends n c.in-End.next.at)) c.from.ensures c.ends_at-ended-in-End.ensures) c.parent_of.ensures).0

pub returns-in-End-clause-rises : goal.returns-in-End-clause-rises
returns-in-End-clause-rises c = end_far _ _ _ _ _ c.requires.text_len_bound.1 _ (faced c.requires.facing c.in-End.is)

-- A RUN OF CHARACTERS.
pub overflow_add-result-in-Text : goal.overflow_add-result-in-Text
overflow_add-result-in-Text c = let h = c.requires.facing in omega (arith, h.counts.nodes, h.counts.few, h.inside, c.requires.text_len_bound.0)

pub returns-in-Text-clause-comes : goal.returns-in-Text-clause-comes
returns-in-Text-clause-comes c =
    (text_comes _ _ _ _ _ c.requires.text_len_bound.1 _ (faced c.requires.facing c.in-Text.is) _
    (tells_both _ _ (tells_both _ _ c.begins-in-Text.ensures c.has_kind.ensures) c.ends_at-ended-in-Text.ensures)).0

pub returns-in-Text-clause-rises : goal.returns-in-Text-clause-rises
returns-in-Text-clause-rises c =
    (text_comes _ _ _ _ _ c.requires.text_len_bound.1 _ (faced c.requires.facing c.in-Text.is) _
    (tells_both _ _ (tells_both _ _ c.begins-in-Text.ensures c.has_kind.ensures) c.ends_at-ended-in-Text.ensures)).1
