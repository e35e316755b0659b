-- The tokens of a printed text: `lexed`.
pub mod Spelling
-- Reading them gives the query, with any numbers for its names: `reads_paths`.
pub mod Rereading
-- `round_trip`.
pub mod RoundTrip
-- The two forms: `never_longer`, `shorter_answer`, `same_nesting`.
pub mod Shortening
