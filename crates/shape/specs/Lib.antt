pub mod Ending
pub mod Walks
