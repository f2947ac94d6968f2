pub mod Faults
pub mod Declared
pub mod Exports
pub mod Parts
pub mod Walk
pub mod Laws
