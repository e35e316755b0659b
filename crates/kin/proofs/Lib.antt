-- A parent column that can be climbed in: `falls_near`, `falls_up`, `any_kinds`.
pub mod Climbing
-- A pass over marks that replaces each byte: `Passed`, `or_byte`.
pub mod Passing
