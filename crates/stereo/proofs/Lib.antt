pub mod Levels
pub mod Frames
