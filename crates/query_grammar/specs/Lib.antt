pub mod Grammar
pub mod Versions
