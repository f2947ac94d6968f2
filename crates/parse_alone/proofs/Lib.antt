pub mod Lasts
pub mod Walks
