pub mod Held
pub mod Walk
pub mod Room
pub mod Written
