pub mod Answers
pub mod Holds
