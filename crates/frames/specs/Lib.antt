pub mod Frames
pub mod Told
