-- What the shape of items says of their nesting: `shape_nesting`, `shape_nothing`.
pub mod Nesting
-- What an accepted composition answers and writes, in either way: `compose_gives`.
pub mod Composing
