pub mod Bare
pub mod Marks
pub mod Laws
pub mod PrintedLaws
