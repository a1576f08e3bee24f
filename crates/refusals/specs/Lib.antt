pub mod Answers
pub mod Numbers
pub mod Outcome
pub mod Rules
