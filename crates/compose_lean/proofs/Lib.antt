-- The marked copy says what `leanly` says: `marked_says`, `marked_nests`.
pub mod Saying
