pub mod Clashing
pub mod Defaulting
pub mod Fixing
pub mod Uniqueness
pub mod Renaming
pub mod Agreeing
mod Loose
mod Members
mod Discerning
mod Subterms
mod Partitions
mod Grouping
mod LabelMaps
mod Consistency
mod Trees
