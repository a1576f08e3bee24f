pub mod Calls
pub mod Framed
