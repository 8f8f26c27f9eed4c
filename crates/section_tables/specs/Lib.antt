pub mod View
pub mod Rows
