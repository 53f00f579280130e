pub mod Pieces
pub mod Spelling
