pub mod Put
pub mod Starts
pub mod View
