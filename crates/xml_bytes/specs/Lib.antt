pub mod Blocks
pub mod Seeking
pub mod Promised
