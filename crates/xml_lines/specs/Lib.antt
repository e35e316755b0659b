pub mod Open
pub mod Kept
pub mod Judges
