pub mod Rules
pub mod Receiver
pub mod Reopening
