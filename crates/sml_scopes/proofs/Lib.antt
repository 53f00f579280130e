mod Stored
mod Tables
mod Nearest
pub mod Joins
mod Meanings
pub mod Finding
