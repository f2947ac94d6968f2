-- What is written between tokens is trivia that may stand there: read these in order.
pub mod Trivia
pub mod Laws
pub mod Characters
