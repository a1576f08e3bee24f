pub mod Sounds
