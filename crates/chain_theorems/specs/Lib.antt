pub mod Chains
pub mod Samples
