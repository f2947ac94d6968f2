pub mod Asked
pub mod Rights
