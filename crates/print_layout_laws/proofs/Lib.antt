pub mod Alike
pub mod LawsLemmas
pub mod Literals
pub mod Marks
pub mod Parts
pub mod Questions
pub mod Same
mod Rows
mod RowsOfStatements
mod RowsOfDeclarations
mod RowsOfExpressions
mod RowsOfOperators
mod ByHand
mod RowsOfPatterns
mod RowsOfModules
mod RowsOfLiterals
mod RowsOfOptions
pub mod Fine
pub mod PrintedLists
pub mod Forms
pub mod PrintedExpressions
pub mod PrintedFunctions
pub mod PrintedStatements
pub mod PrintedModules
pub mod Printed
pub mod PrintedLemmas
