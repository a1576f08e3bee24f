pub mod Update
pub mod Words
