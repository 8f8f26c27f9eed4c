pub mod Section
pub mod Calls
pub mod History
pub mod Fits
pub mod Claim
pub mod Examples
