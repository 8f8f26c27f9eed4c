pub mod Text
pub mod Numbers
pub mod Bytes
