pub mod Bodies
pub mod Reversed
pub mod Words
