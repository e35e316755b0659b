-- The text of an axis.
pub mod Words
