-- The lines of a measure: `too_long`, `no_query`, `measured`.
pub mod Answering
