-- The nodes where steps stand, in the front of a list: `front_more`, `last_stood`.
pub mod Stands
-- The steps of a path one by one: `step-here`, `step_fits`, `step_ends`.
pub mod Steps
-- The search of a path with back-tracking: what is left, `left`, `left_push`, `left_pop`; how many moves are left, `worth`.
pub mod Searching
-- A path that may end anywhere, and one that must end at a node: `finds_goes`, `arrives_goes`.
pub mod Ending
-- A run of an operator at one node: `Left`, `Awaits`; the loop of an expression, a term inside an `or`: `Turn`.
pub mod Running
-- An operand.
pub mod Operating
-- Predicates in a row: `Owed`.
pub mod Rows
-- The state of a path's search and its moves: `State`, `state_push`, `state_back`.
pub mod Paths
-- Seeking the next node for a step: `Past`, `past_led`, `past_failed`.
pub mod Seeking
-- The top-level paths of a query: `PathsLeft`, `path_hit`, `path_missed`.
pub mod Selecting
-- The nodes kept for the selected nodes below a number: `up_to`.
pub mod Keeping
