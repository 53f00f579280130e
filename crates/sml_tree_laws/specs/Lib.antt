pub mod Scoped
pub mod WellBound
pub mod Recursive
pub mod Matches
pub mod Kinds
