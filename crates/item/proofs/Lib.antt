-- A number by its kind.
pub mod Unpacking
-- Tests by their numbers: `meets_node` .. `meets_name`.
pub mod Meeting
-- What an unpacked item tells of its number: `Said`, `said`; `not_step`, `not_path`.
pub mod Saying
-- Writing in place: `placed_after`, `placed_before`, `drop_placed`, `placed_cut`.
pub mod Placing
-- Guarded axes by their numbers: `guarded-number`, `guarded_none`.
pub mod GuardedAxes
