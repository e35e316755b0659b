-- Two tests tell of two facts, and a fact leaves one test: `tells_both`, `tells_unique`.
pub mod Tests
-- The kind that a look for a name tells: `has_kind`, `lacks_kind`.
pub mod Naming
