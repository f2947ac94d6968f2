pub mod Texts
pub mod Spaces
pub mod Places
pub mod Standing
pub mod Characters
