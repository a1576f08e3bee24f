pub mod Making
pub mod States
pub mod Stretches
pub mod Theorems
pub mod Windows
pub mod Words
