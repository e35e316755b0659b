-- Where the first name stands that the list lacks: `lacks_nothing`, `stays_first`, `comes_first`.
pub mod Lacking
-- What a node more and an end more do to the lines so far: `joined_lines`, `closed_lines`, `length_lines`.
pub mod Opened
-- The name of a start tag, `name_there`, and one start tag more: `found_before`, `has_name`, `lacks_name`.
pub mod Naming
-- What a line more and an end more do to the kept columns, and what is copied of them: `Filled-more`, `filled_end`, `parent_there`, `copied`.
pub mod Filling
-- The lines of reading XML in their order: `name_lacking`, `too_short`, `enough`, `accepted`, `copied_exit`, `refused_exit`, `too_long`, `good_list`.
pub mod Answered
