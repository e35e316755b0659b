-- Unpacked items.
pub mod Reading
-- A walk over top-level paths: `top`, `Writing`.
pub mod Paths
-- The reversed steps, from the last back.
pub mod WayBack
-- The items of S.
pub mod Selected
