pub mod Sizes
pub mod Expressed
pub mod Tied
pub mod Passed
pub mod Nests
pub mod WholeLemmas
