pub mod Leans
pub mod Marks
