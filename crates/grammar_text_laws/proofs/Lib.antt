pub mod Rows
mod FactsChoice
mod FactsTexts
mod FactsGoals
pub mod Ordered
pub mod Alone
pub mod Passed
pub mod Apart
pub mod OneLemmas
