pub mod Operations
pub mod State
pub mod Calls
pub mod Whole
pub mod Props
