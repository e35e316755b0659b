-- How reading goes through a start tag: `name_run`, `tag_gap`, `tag_closes`, `tag_empties`, `tag_foreign`, `tag_refused`, `tag_cut`, `empty_read`, `start_cut`, `start_names`.
pub mod Tagging
-- What stands at a place inside an element, as a piece: `takes_cut`, `takes_left_out`, `takes_text`, `text_refused`, `takes_tag`, `takes_end`.
pub mod Taking
-- The promises leave one answer: `take_unique`, `root_unique`, `finish_unique`.
pub mod Unique
-- What reading a piece says of the judgement of the text: `judged`, `judged_next`, and by case `judged_on`, `judged_refused`, `judged_next_on`, `judged_next_refused`.
pub mod Judging
-- The start tag of the one element, `roots`, and what may stand behind the element: `finish_ends`, `finish_refused`.
pub mod Finishing
