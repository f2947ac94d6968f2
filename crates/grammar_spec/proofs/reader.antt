pub mod Texts
pub mod Shapes
pub mod Rows
mod FactsPrimaries
mod FactsFaults
mod FactsObjects
mod FactsTemplates
mod FactsMembersAndCalls
mod FactsChains
mod FactsOperators
mod FactsUpdatesTheConditional
mod FactsAssignment
mod FactsArrows
mod FactsReservedAwait
mod FactsFunctionsYieldAnd
mod FactsClasses
mod FactsFieldsThatWords
mod FactsStatementsAndTheir
mod FactsVariablesAndLet
mod FactsBranchesAndLoops
mod FactsJumpsLabelsSwitch
mod FactsWhatMayNot
mod FactsRests
mod FactsModules
mod FactsUsing
mod FactsStrictness
mod FactsLabelsAndJumps
mod FactsSuperNewTarget
