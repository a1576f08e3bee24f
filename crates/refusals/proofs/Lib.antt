pub mod Answers
pub mod ByTurns
pub mod Faults
pub mod Settled
pub mod Tests
