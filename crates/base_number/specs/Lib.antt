pub mod Numbers
pub mod NumberForm
pub mod DigitText
