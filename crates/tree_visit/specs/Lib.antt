pub mod Spine
pub mod Seen
pub mod Walk
pub mod Told
pub mod Spines
