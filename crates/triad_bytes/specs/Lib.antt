pub mod Calls
pub mod Record
