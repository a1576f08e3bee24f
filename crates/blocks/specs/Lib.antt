pub mod Blocks
pub mod Covering
