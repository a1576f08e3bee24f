pub mod Decimals
pub mod Lines
pub mod Surveys
pub mod Theorems
