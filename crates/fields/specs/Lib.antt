pub mod Fields
pub mod Offsets
