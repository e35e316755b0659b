-- A run of one item, counted: `run_within`, `run_found`; from a place on, `run_more`, `run_other`, `run_end`.
pub mod Runs
-- `and` and `or` by one record: `Run`, `each`, `operators_run`.
pub mod Operators
-- The loop of an expression: `Turn`; steps and predicates in a row: `Row` with `step_rows` and `pred_rows`.
pub mod Walking
-- The brackets.
pub mod Operands
-- Top-level paths.
pub mod Queries
-- The steps of a path one by one: `later`, `split`; steps from a place on: `fewer_readable`, `further_readable`, `further`.
pub mod Stepping
-- The shape of items and the query that they are: `shaped_none`, `Shaped`, `shaped_some`; as `ok_or` has it, `shape_refused`, `shape_accepted`.
pub mod Shaping
