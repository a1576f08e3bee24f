pub mod Calls
pub mod Record
pub mod Theorems
