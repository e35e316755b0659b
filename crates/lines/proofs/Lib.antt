-- Cutting an input into lines: `line_ends`, `place_or`; the bytes passed, `Passed`, `none_passed`, `one_passed`, `ends_there`, `ends_last`; the next line, `starts_after`, `starts_nowhere`, `next_whole`.
pub mod Splitting
-- Parting a name list from what follows.
pub mod Parting
-- What one part of the work makes of the report: `refused_part`, `given_part`.
pub mod Reported
-- `decimal_one`, `decimal_more`, `decimal_few`.
pub mod Digits
