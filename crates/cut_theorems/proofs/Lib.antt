-- What a yes means: `marks_are_good`, `extracts`, `yes_leaves`, `length_marks`, `empty_marks`.
pub mod Yes
-- Which tables get one: `length_numbers`, `extracted_yes`, `marks_back`.
pub mod Converse
-- What runs keep of a whole document: `kept_Leaves`, `kept_yes`.
pub mod Kept
-- Every answer is below 2^32: `is_cut_small`; `halyardfig` hands it to `coded`.
pub mod Bounds
