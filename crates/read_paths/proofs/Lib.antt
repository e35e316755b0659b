-- Brackets, `not`, single steps.
pub mod Operands
-- Paths to the end of the text: `leads_past`, a refusal passed upward, `all_refused`, `stops_not`.
pub mod Queries
-- Predicates and steps in a row: `PredRow`, `StepRow`.
pub mod Rows
-- Operands of `and` and `or` by one record `Operator`: `Left`; an operand is to be read next: `Awaits`; the loop of an expression, a term inside an `or`: `Turn`; a refusal handed upward: `passed_on`.
pub mod Runs
-- One answer, and one content where there is room: `reads_unique`, `reads_left`.
pub mod Unique
