pub mod Fields
pub mod Lines
pub mod Rows
pub mod Grouping
