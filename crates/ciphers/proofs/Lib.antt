pub mod Enciphering
