pub mod Buffers
pub mod Digits
pub mod LowFirst
pub mod Rows
pub mod Stream
