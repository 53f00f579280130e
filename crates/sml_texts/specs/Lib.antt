pub mod Spelling
pub mod Text
