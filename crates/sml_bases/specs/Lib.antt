pub mod Views
pub mod Layers
pub mod CodeStored
pub mod Entries
pub mod Summaries
