-- Answers that tell the same are the same.
pub mod Telling
-- The demands over calls that met their contracts.
pub mod Calls
-- Three views in a row over calls.
pub mod ChainCalls
-- The two engines answer and leave the same.
pub mod Engines
-- Lean compositions over calls: `lean_as_composed`, `no_more_refusals`, `lean_exactness`, `lean_secrecy`, `lean_scratch_enough`, `lean_three_in_turn`, `lean_three_secrets`.
pub mod LeanCalls
-- Roles over calls.
pub mod RoleCalls
