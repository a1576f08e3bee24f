pub mod Sections
pub mod Stores
