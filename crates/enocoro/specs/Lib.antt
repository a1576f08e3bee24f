pub mod Calls
pub mod Keystream
pub mod Record
pub mod State
pub mod Window
