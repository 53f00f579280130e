pub mod Layers
pub mod Asked
pub mod Bound
pub mod Counts
