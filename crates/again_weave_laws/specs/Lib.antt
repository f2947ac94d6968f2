-- A text with other trivia between its tokens is read back.
pub mod Cells
pub mod Laws
