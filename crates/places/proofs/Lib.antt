-- The steps of a path one by one, as `shape` has them: `later`, `split`, `further`.
pub mod Stepping
-- The promises leave one answer: `ends_unique`, `places_unique`, `step_unique`.
pub mod Unique
