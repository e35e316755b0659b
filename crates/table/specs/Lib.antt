pub mod Climbs
pub mod Passing
