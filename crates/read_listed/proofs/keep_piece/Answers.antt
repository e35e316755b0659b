-- One law a piece.
use Rattle.std.proofs.Common.{◌∙◌, ap, arith}
use Rattle.paper.specs.Xml.{name_kind}
use Rattle.read_listed.proofs.Counted.{faced, start_room, start_comes, empty_comes, end_comes, end_inside, text_comes, text_inside}
use Rattle.read_listed.proofs.keep_piece.Goals as goal

-- A START TAG.
pub find_name-found-requires : goal.find_name-found-requires
find_name-found-requires c = (faced c.requires.facing c.in-Start.is).moves.1.0

pub narrow-requires : goal.narrow-requires
narrow-requires c = omega (arith, c.requires.facing.inside, c.requires.text_len_bound)

pub offset_bounds-open-depth : goal.offset_bounds-open-depth
offset_bounds-open-depth c = omega (arith, start_room _ _ _ _ _ _ _ (faced c.requires.facing c.in-Start.is) c.requires.text_len_bound)

pub bounds-open-depth : goal.bounds-open-depth
bounds-open-depth c = start_room _ _ _ _ _ _ _ (faced c.requires.facing c.in-Start.is) c.requires.text_len_bound

pub kind_of-requires : goal.kind_of-requires
kind_of-requires c = c.find_name-found.ensures.few

pub keep-requires : goal.keep-requires
keep-requires c = (omega (arith, c.requires.facing.inside, c.requires.text_len_bound), omega arith)

pub overflow_add-result : goal.overflow_add-result
overflow_add-result c = omega (arith, start_room _ _ _ _ _ _ _ (faced c.requires.facing c.in-Start.is) c.requires.text_len_bound)

pub narrow-requires-in-Start : goal.narrow-requires-in-Start
narrow-requires-in-Start c = let h = c.requires.facing in omega (arith, h.counts.nodes, h.counts.few, h.inside, c.requires.text_len_bound)

pub overflow_add-result-in-Start : goal.overflow_add-result-in-Start
overflow_add-result-in-Start c = let h = c.requires.facing in omega (arith, h.counts.nodes, h.counts.few, h.inside, c.requires.text_len_bound)

pub first_unnamed-requires : goal.first_unnamed-requires
first_unnamed-requires c = omega (arith, c.requires.facing.inside, c.requires.text_len_bound)

pub returns-in-Start-clause-comes : goal.returns-in-Start-clause-comes
returns-in-Start-clause-comes c =
    let looked = c.find_name-found.ensures.numbered in
    (start_comes _ _ _ _ _ _ _ _ (faced c.requires.facing c.in-Start.is) c.requires.text_len_bound _ _ _ _ c.narrow.ensures c.narrow-in-Start.ensures
    (λ rows up end before. c.first_unnamed.ensures _ rows _ up end looked before)
    (c.kind_of.ensures ∙ ap name_kind looked) c.keep.ensures).0

pub returns-in-Start-clause-rises : goal.returns-in-Start-clause-rises
returns-in-Start-clause-rises c = let t = (faced c.requires.facing c.in-Start.is).moves.1 in omega (arith, t.1, t.2)

-- AN EMPTY ELEMENT.
pub find_name-found-requires-in-Empty : goal.find_name-found-requires-in-Empty
find_name-found-requires-in-Empty c = (faced c.requires.facing c.in-Empty.is).moves.1.0

pub kind_of-requires-in-Empty : goal.kind_of-requires-in-Empty
kind_of-requires-in-Empty c = c.find_name-found-in-Empty.ensures.few

pub keep-requires-in-Empty : goal.keep-requires-in-Empty
keep-requires-in-Empty c =
    let h = faced c.requires.facing c.in-Empty.is in (omega (arith, h.inside, c.requires.text_len_bound), omega (arith, h.moves.0.inside, c.requires.text_len_bound))

pub overflow_add-result-in-Empty : goal.overflow_add-result-in-Empty
overflow_add-result-in-Empty c = let h = c.requires.facing in omega (arith, h.counts.nodes, h.counts.few, h.inside, c.requires.text_len_bound)

pub first_unnamed-requires-in-Empty : goal.first_unnamed-requires-in-Empty
first_unnamed-requires-in-Empty c = omega (arith, c.requires.facing.inside, c.requires.text_len_bound)

pub returns-in-Empty-clause-comes : goal.returns-in-Empty-clause-comes
returns-in-Empty-clause-comes c =
    let looked = c.find_name-found-in-Empty.ensures.numbered in
    (empty_comes _ _ _ _ _ _ _ _ (faced c.requires.facing c.in-Empty.is) _ _
    (λ rows up end before. c.first_unnamed-in-Empty.ensures _ rows _ up end looked before)
    (c.kind_of-in-Empty.ensures ∙ ap name_kind looked) c.keep-in-Empty.ensures).0

pub returns-in-Empty-clause-rises : goal.returns-in-Empty-clause-rises
returns-in-Empty-clause-rises c = let t = (faced c.requires.facing c.in-Empty.is).moves.1 in omega (arith, t.1, t.2)

-- AN END TAG.
pub tell_end-up-requires : goal.tell_end-up-requires
tell_end-up-requires c = omega (arith, (end_inside _ _ _ _ _ _ (faced c.requires.facing c.in-End.is)).1, c.requires.text_len_bound)

pub overflow_sub-result : goal.overflow_sub-result
overflow_sub-result c = (end_inside _ _ _ _ _ _ (faced c.requires.facing c.in-End.is)).0

pub returns-in-End-clause-comes : goal.returns-in-End-clause-comes
returns-in-End-clause-comes c = (end_comes _ _ _ _ _ _ _ (faced c.requires.facing c.in-End.is) _ c.tell_end-up.ensures).0

pub returns-in-End-clause-rises : goal.returns-in-End-clause-rises
returns-in-End-clause-rises c = (end_comes _ _ _ _ _ _ _ (faced c.requires.facing c.in-End.is) _ c.tell_end-up.ensures).1

-- A RUN OF CHARACTERS.
pub keep-requires-in-Text : goal.keep-requires-in-Text
keep-requires-in-Text c =
    let h = faced c.requires.facing c.in-Text.is in (omega (arith, h.inside, c.requires.text_len_bound), omega (arith, text_inside _ _ _ _ _ _ h, c.requires.text_len_bound))

pub overflow_add-result-in-Text : goal.overflow_add-result-in-Text
overflow_add-result-in-Text c = let h = c.requires.facing in omega (arith, h.counts.nodes, h.counts.few, h.inside, c.requires.text_len_bound)

pub returns-in-Text-clause-comes : goal.returns-in-Text-clause-comes
returns-in-Text-clause-comes c = (text_comes _ _ _ _ _ _ _ (faced c.requires.facing c.in-Text.is) c.keep-in-Text.ensures).0

pub returns-in-Text-clause-rises : goal.returns-in-Text-clause-rises
returns-in-Text-clause-rises c = (text_comes _ _ _ _ _ _ _ (faced c.requires.facing c.in-Text.is) c.keep-in-Text.ensures).1
