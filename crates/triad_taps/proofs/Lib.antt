pub mod Strides
pub mod Turned
pub mod Words
