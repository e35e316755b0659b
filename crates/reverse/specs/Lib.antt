pub mod Reverses
