pub mod Asks
pub mod Betweens
pub mod Chains
pub mod Specifiers
pub mod Spines
pub mod Templates
