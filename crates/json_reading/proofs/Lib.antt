pub mod PlainTexts
pub mod ReadTrees
pub mod PlainObjects
