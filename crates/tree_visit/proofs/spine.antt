pub mod Chains
pub mod Weights
