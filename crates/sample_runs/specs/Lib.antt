pub mod Unturned
