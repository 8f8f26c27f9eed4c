pub mod Carrying
pub mod Onward
