-- One step back, one step forward.
pub mod Stepwise
-- A run of an operator over sets: `Left`; a part is to be read next, behind the bytes held of the run's own set: `Awaits`; the loop of an expression, a term inside an `or`: `Turn`.
pub mod Running
-- An operand.
pub mod Operating
-- Sets kept: `Kept-same` and what leaves the same bytes (`kept_front`, `kept_part`, `Kept-back`, `kept_end`), `kept_remembered`, `recalled`.
pub mod Recalling
-- Predicates in a row, the steps of a path.
pub mod Rows
-- A part lent and come back: `first_stays`, `second_comes`, `part_comes`, `middle_same`; two sets lent and joined: `part_joined`.
pub mod Slices
-- Top-level paths; what is kept.
pub mod Selecting
