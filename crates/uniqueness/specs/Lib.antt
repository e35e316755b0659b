pub mod Uniqueness
pub mod RoleForCReads
pub mod UniqueEntries
pub mod UniqueParts
pub mod UniqueSheets
