pub mod Encoded
pub mod Counting
