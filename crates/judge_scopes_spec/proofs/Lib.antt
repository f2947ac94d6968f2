pub mod Parts
pub mod Walks
pub mod Named
pub mod Moved
pub mod MovedWalk
pub mod Rows
mod FactsBlocks
mod FactsFunctions
mod FactsHoisted
mod FactsModules
mod FactsWords
