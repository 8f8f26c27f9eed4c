pub mod Errors
pub mod Formats
pub mod Orders
pub mod Held
pub mod Refusals
