pub mod Keystream
pub mod Registers
pub mod Words
