pub mod ReadBack
pub mod Examples
