-- The answer line by line.
pub mod Answering
