pub mod Bytes
pub mod Covers
pub mod Steps
pub mod Theorems
