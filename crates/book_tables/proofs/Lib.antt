pub mod Gathered
pub mod Rest
