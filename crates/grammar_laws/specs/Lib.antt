pub mod CompleteRules
pub mod CompleteBase
pub mod Complete
pub mod Context
pub mod Slash
pub mod Laws
pub mod SteadyLaws
