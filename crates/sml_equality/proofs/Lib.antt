mod Needing
mod Spreading
mod Keeping
pub mod Settling
