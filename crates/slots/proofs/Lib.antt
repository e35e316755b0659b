-- Items behind, before and in front of a run: `wrote_more`, `wrote_head`, `wrote_grouped`.
pub mod Writing
-- One content: `wrote_unique`, `grouped_unique`.
pub mod Unique
