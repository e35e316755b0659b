-- Characters and references apart from their places, `Letters` and `Spelt`; what escaping makes of them: `spelt_put`.
pub mod Letters
-- What is written for sound nodes is derived again: `derived_sound`, `pruned_sound`, `Alike`, `joined`, `file`.
pub mod Rebuilt
-- The extracted table is that of the pruned tree: `Shut`, `closed_shut`, `extracted_pruned`.
pub mod Pruning
-- Texts side by side made one, in the table and in the tree: `merged_joined`.
pub mod Merging
-- `written_parts`, `read_back`.
pub mod Back
-- What is known where writing answers with a value, `granted`; `file_is`, `read_back_answers`.
pub mod Answered
-- What lines tell leaves one tree apart from places: `same_file`.
pub mod Twins
-- `secret_file`, `secret_answers`.
pub mod Secret
-- Every answer is below 2^32: `write_xml_small`.
pub mod Bounds
-- The walk over the lines that writes the same, `onward`: `kept_onward`; what is open all the way: `start_rests`, `node_rests`.
pub mod Onward
-- An element's name is what a writer finds behind its `<`: `names_stand`.
pub mod Naming
-- `no_marks_end`.
pub mod Clear
