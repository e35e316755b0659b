-- `by-axis`.
pub mod Decided
-- Lean steps are guarded steps from a visible node, and find nothing from a hidden one: `down_hidden`, `lean_expr`, `same_selected`.
pub mod Alike
-- `same_kept`, `lean_exactness`, `lean_secrecy`, and for views in a row `lean_in_turn`, `lean_secrets`, `lean_three_in_turn`, `lean_three_secrets`.
pub mod Leans
-- `size_by`, `lean-size`, `no_larger`.
pub mod Smaller
-- `nesting_by`, `lean-nesting`, `no_deeper`.
pub mod Shallower
-- `lean_height`, `lean_scratch_enough`.
pub mod Lower
-- `proper_lean`, `lean_well_formed`, `lean_read_back`.
pub mod Forms
-- A query with its decisions in its axes: `marked_measures`, `marked_composed`, `marked_good`.
pub mod Marks
-- `lean_small`.
pub mod Bounded
