pub mod Exact
pub mod Heads
