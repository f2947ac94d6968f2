-- What scripts and modules share, and what imports and exports do.
pub mod Items
pub mod Lines
pub mod Sources
pub mod Attributes
pub mod Firsts
pub mod Steps
