pub mod Hearing
pub mod Senders
pub mod Theorems
