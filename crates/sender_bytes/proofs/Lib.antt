pub mod Anew
pub mod Theorems
