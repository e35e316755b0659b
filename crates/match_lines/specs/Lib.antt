pub mod Lines
pub mod Compared
