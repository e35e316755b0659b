-- What the kept starts say of a line: `part_room`, `part_test`.
pub mod Parts
-- A search among numbers, step by step, and what it finds: `first_here`, `first_on`, `first_some`.
pub mod Firsts
-- One answer: `found_unique`.
pub mod Unique
