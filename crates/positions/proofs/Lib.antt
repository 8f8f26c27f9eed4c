pub mod Starts
pub mod Filling
pub mod Reading
