pub mod Redo
pub mod Written
pub mod Every
pub mod Faithful
pub mod Read
pub mod Begins
pub mod Laws
