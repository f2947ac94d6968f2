pub mod Template
pub mod Number
pub mod String
pub mod Forms
pub mod PieceText
pub mod Pieces
pub mod Styles
