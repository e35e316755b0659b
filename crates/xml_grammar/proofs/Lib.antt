-- The automaton over several bytes, `Runs` and `Goes`: `runs_one`, `runs_cut`.
pub mod Moves
-- The ways through a pattern, `Reach`: `reach_back` (a byte in front), `say-reach` .. `given-reach` (which production such bytes are).
pub mod Patterns
-- The patterns that reading meets: `live_after`, `live_finishes`, `live_no`.
pub mod Live
-- Characters of several bytes: `wide_passed`, `wide_finishes`.
pub mod Wide
-- `]]>` by counting: `fine_marks`, `marks_fine`.
pub mod Squares
-- The declaration: `declaration_passed`, `value-passed`.
pub mod Declared
-- What was read, for each place where reading may stand: `reached_step`, `derived`.
pub mod Reached
-- Reading goes over what is derived, the declaration first: `value_goes`.
pub mod Heading
-- Then the element and all inside it: `row_Goes`, `followed`.
pub mod Followed
