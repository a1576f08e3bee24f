pub mod Calls
pub mod Engines
pub mod Keystream
pub mod Pieces
pub mod Record
pub mod State
pub mod Tag
