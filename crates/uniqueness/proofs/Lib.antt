-- Uniqueness of the entry points and of the C interface, as specs/UniqueEntries.antt states it.
pub mod UniqueEntries
-- The same of all other public functions.
pub mod UniqueParts
-- The same of the functions of a sheet.
pub mod UniqueSheets
