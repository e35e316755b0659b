pub mod Entries
pub mod Chains
pub mod LeanEntries
pub mod RoleEntries
