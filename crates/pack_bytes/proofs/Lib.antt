pub mod Opening
pub mod Opposites
pub mod Sealing
pub mod Theorems
