pub mod Receivers
pub mod Reopening
pub mod Theorems
