-- Literals: ECMA-262, 12.9.3, 12.9.4, 12.9.6, B.1.1 and B.1.2. A text is a list of characters, a character its code.
pub use Rattle.base_token.specs.Editions
pub mod Escapes
pub mod NumberSteps
pub mod Numbers
pub mod Places
pub mod Reading
pub mod Standing
pub mod Stops
pub mod Strings
pub mod TemplateSteps
pub mod Tagged
pub mod Templates
pub mod Units
