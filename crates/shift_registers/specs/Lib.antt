pub mod Registers
pub mod Steps
pub mod Words
