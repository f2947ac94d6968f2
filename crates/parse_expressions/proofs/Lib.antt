-- What is read behind the characters of a template.
pub mod Steps
