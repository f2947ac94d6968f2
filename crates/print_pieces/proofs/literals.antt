pub mod Split
pub mod Parted
pub mod Written
pub mod Plain
