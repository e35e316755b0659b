-- `composed-size`.
pub mod Sizes
-- `composed-nesting`.
pub mod Nesting
-- `composed_height`, `scratch_enough`.
pub mod Height
