pub mod RoleReads
pub mod Calls
pub mod ChainCalls
pub mod Engines
pub mod LeanCalls
pub mod RoleCalls
