-- How the numbers of a column grow.
pub mod Growing
-- `grows_unique`.
pub mod Unique
