pub mod Ciphers
pub mod Front
pub mod Making
pub mod SixWords
pub mod Written
