pub mod Shapes
pub mod Trees
pub mod Sums
