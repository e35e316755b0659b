-- `in-turn`, `secrets`, and for three views `three_in_turn`, `three_secrets`.
pub mod Chains
