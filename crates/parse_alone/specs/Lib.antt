-- What is read of whole programs, and of parts, items and properties that stand alone, within the limit of nesting.
pub mod Within
pub mod Ends
pub mod Items
pub mod Parts
pub mod Props
pub mod Covers
pub mod Patterns
