pub mod Moved
pub mod MovedWalk
pub mod Rows
mod FactsBlocks
mod FactsBodies
mod FactsClasses
mod FactsLate
mod FactsLoops
mod FactsModules
mod FactsNear
mod FactsParameters
mod FactsPrivate
