pub mod Bytes
pub mod Covers
pub mod Little
pub mod Loading
pub mod Parts
pub mod Steps
pub mod Theorems
