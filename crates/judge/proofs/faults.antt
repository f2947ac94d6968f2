mod Asking
mod Sorted
pub mod Rights
