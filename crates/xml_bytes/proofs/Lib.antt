-- How reading goes on from a byte, `text_ends`, `alone_opens`, `steps_on`, `refused_here`, `opens_not`, and from a state that waits for one, `Waits`: `wait_ends`, `wait_over`, `wait_refused`; where a run of bytes ends: `run_inside`, `stops_run`.
pub mod Steps
-- Bytes read one after the other, each of its set, `Reads`: one byte, `reads_taken`; the rest of a row, `row_next`, `row_stuck`; a loop, `Passed`; where a row ends, `reads_bounds`; how reading goes through it, `row_goes`, `wait_read`.
pub mod Rows
-- What bytes of names and white space are: `part_calm`, `white_calm`.
pub mod Signs
-- How far the places of a block fit: `fit_none`, `fit_more`, `fit_all`; the first that does not, `byte_few`, `marks`, `sooner_here`, `sooner_stop`.
pub mod Blocks
-- A refusal is known by its number and place: `told_back`.
pub mod Telling
