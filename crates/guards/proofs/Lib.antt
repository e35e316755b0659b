-- Unpacked items.
pub mod Reading
-- A path guarded item by item: `Guarded`.
pub mod Guarding
