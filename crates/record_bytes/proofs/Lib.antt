pub mod Ciphers
pub mod Fields
pub mod Fronts
pub mod Making
pub mod Sixes
