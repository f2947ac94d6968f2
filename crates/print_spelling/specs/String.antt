pub mod CodePoints
pub mod Names
pub mod QuotedTexts
pub mod Strings
