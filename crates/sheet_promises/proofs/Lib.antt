-- A list without fault has at most 256 names.
pub mod Few
-- What is printed goes by the numbers of the names and of the refusals alone.
pub mod Printing
-- The sheet is exact.
pub mod Exact
-- The beginning of an input is enough.
pub mod Heads
