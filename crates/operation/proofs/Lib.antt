pub mod Fronts
pub mod Referring
