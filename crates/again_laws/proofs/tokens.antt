pub mod Ascii
pub mod Punctuators
pub mod PlainWords
pub mod Tables
pub mod Known
pub mod KindsBefore
pub mod SaidIsTold
