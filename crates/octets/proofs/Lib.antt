pub mod Bits
pub mod Buffers
pub mod LowFirst
pub mod Numbers
pub mod Rows
pub mod Shifts
pub mod Slices
pub mod Streams
