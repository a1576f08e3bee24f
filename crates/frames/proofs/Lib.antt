pub mod FramesRead
pub mod Theorems
pub mod FramesWritten
