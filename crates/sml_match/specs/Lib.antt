pub mod Ascribed
pub mod General
pub mod Mismatches
pub mod Paths
pub mod Required
pub mod Searches
