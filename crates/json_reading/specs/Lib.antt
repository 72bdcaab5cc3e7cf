pub mod ReadBack
pub mod Laws
