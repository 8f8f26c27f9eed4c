pub mod Counts
pub mod Histories
