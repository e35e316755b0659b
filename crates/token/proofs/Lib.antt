-- How long the run at the start of a list is: `run_found`.
pub mod Runs
-- One answer of `take`: `take_unique`.
pub mod Unique
