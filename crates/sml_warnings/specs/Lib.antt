pub mod Sorting
pub mod Meanings
pub mod Named
pub mod Added
pub mod Lost
