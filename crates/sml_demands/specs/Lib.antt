pub mod Counted
pub mod Overloaded
pub mod CodeReads
pub mod CodeSettled
pub mod CodeLevels
