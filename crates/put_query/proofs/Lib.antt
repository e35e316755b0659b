-- The loop of an expression: `Turn`, with `Awaits` and `Left` over the operator.
pub mod Chains
-- What stands before the steps that are left, `/` or `//`: `skips`, `path_text`.
pub mod Skipping
-- Steps and predicates in a row: `Rest`.
pub mod Rows
-- The brackets.
pub mod Operands
-- Top-level paths.
pub mod Queries
