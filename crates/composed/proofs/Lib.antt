-- What guarding makes of items.
pub mod Items
-- How many items there are: `says_length`, `size-got`.
pub mod Counting
-- One top-level path.
pub mod Outer
-- The items of V and of the composition.
pub mod Composed
