pub mod Field
pub mod S8
