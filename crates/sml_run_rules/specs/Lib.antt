pub mod Sources
pub mod Warnings
pub mod Runs
pub mod Likeness
pub mod Seals
pub mod One
pub mod Exported
pub mod Samples
