pub mod Unpacked
pub mod Placed
