pub mod Behind
pub mod Again
