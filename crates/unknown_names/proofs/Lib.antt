-- Names that the list lacks: the search from item to item, `unknown_here`, `unknown_later`, `unknown_past`; where it finds none, `all_known`.
pub mod Unknowns
-- One place for what is found: `first_unique`.
pub mod Unique
