pub mod Iterate
pub mod Firsts
pub mod Thirds
pub mod Taking
