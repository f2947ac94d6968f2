pub mod Lines
pub mod Pieces
pub mod Laws
pub mod Utf8
