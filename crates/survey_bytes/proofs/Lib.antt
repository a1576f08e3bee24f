pub mod Surveyed
pub mod Theorems
