pub mod Replaced
pub mod Lending
pub mod Spread
