-- The lines before one: `earlier_none`, `repeats_first`.
pub mod Earlier
-- A word whose key no line has: `no_key_no_line`.
pub mod Keying
