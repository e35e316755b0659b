-- Numbers before and after an extraction: `rank-onto`, `extracted_kind`, `extracted_parent`, `some_renumbered`, `extracted_twice`.
pub mod Renumber
-- What composition asks of an axis beside the laws of `paper`: `leads_inside`, `leads_renumbered`; no other proof here splits on the axis.
pub mod Axes
-- What one step needs and gives, for `finds` and `arrives` alike: `goes`, `went`.
pub mod Stepping
-- The reverse of a path holds where the path leads: `reverse`.
pub mod Reverse
-- S is what is selected, V what is kept: `selected`, `visible_keeps`.
pub mod Visible
-- Guarded steps: `guarded_expr`, `guarded_steps`.
pub mod Guard
-- `exactness`.
pub mod Exact
-- `extraction`, `same_nodes`.
pub mod Extract
-- `secrecy`.
pub mod Secrecy
-- Well-formed queries by type and by test: `good_proper`, `proper_good`, `well_formed`.
pub mod Forms
