pub mod Categories
pub mod Following
pub mod Goes
pub mod Tiles
pub mod Laws
