pub mod Laws
pub mod Again
pub mod Left
pub mod RegExps
pub mod RegExpTexts
pub mod Templates
