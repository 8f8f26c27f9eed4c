pub mod Lent
pub mod Words
