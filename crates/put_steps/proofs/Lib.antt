-- The words of tests, and the text of a head.
pub mod Words
