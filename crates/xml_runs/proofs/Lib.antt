-- From one state of a run of characters to another: `cross_row`, `cross_ends`, `byte_on`, `word_on`, `pattern_on`, `pattern_refused`, `run_on`, `run_by`, `run_stuck`.
pub mod Holding
-- What the first byte of a character of several asks for, `wide_two`, `wide_three`, `wide_four`, `high_on`, `high_wrong`, and which bytes are characters by themselves: `plain_step`, `marked_step`, `wrong_step`.
pub mod Leading
-- How a run of characters begins and ends, `Running`: `run_begins`, `run_more`, `run_ends_lem`, `run_cut`, `run_refused`.
pub mod Running
-- How reading goes over ordinary bytes: `ends_none`, `ends_more`, `ordinary_past`.
pub mod Passing
-- The promise of `run` leaves one answer: `run_unique`.
pub mod Unique
