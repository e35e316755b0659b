-- Accepted calls taken apart: `composition`, `ran`, `took`, `shown`.
pub mod Accepting
-- The demands over the entry points' definitions.
pub mod Entries
-- Three views in a row over the entry points' definitions.
pub mod Chains
-- Lean compositions over the entry points' definitions: `lean_acceptance`, `no_more_refusals`, `lean_exactness`, `lean_secrecy`, `lean_three_in_turn`.
pub mod LeanEntries
-- Roles over the entry points' definitions: `role_acceptance`, `role_independence`, `role_exactness`, `union_marks`, `role_secrecy`, `role_monotony`.
pub mod RoleEntries
