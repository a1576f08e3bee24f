pub mod Record
pub mod Theorems
