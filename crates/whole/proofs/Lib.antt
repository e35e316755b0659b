-- The first of a row of ones is one of ones: `take_ones`.
pub mod Ones
-- A run that gives a value writes all the marks: `marks_kept`.
pub mod Kept
