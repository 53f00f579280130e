pub mod Places
pub mod Answers
pub mod Statements
pub mod Likeness
pub mod Units
