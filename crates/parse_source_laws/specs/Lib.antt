pub mod Sources
pub mod Laws
pub mod Consumed
pub mod Ahead
