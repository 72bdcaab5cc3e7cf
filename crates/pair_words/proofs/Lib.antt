pub mod Pieces
pub mod NameLetters
pub mod Cells
pub mod LineCells
mod SeenMarks
mod OwnLines
mod CountedBytes
mod AloneBytes
pub mod CountedColumns
pub mod LastDigits
pub mod LineNumbers
-- what the crates above may cite
pub mod Promises
