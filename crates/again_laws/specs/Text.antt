pub mod Fitting
pub mod Texts
pub mod TiledLaws
pub mod LaidLaws
pub mod TextLaws
pub mod PlacedLaws
