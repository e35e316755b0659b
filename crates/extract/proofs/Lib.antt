-- A table and marks with no fault are in document order and closed: `ordered`, `shape_tree`.
pub mod Ordering
-- A pass that writes one value for each marked node: `Written`, `one_more`, `no_more`.
pub mod Writes
-- The lines of an extract.
pub mod Lines
