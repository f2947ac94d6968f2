pub mod Comments
pub mod Store
