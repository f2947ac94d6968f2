pub mod Whole
pub mod Chains
