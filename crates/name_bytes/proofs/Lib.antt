-- The first bytes of names by productions 4 and 4a: `start_bytes`, `part_bytes`.
pub mod NameBytes
