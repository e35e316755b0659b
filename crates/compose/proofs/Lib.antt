pub mod Placing
pub mod Items
pub mod Reading
