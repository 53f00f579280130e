pub mod Layers
pub mod Worlds
pub mod Rows
pub mod Classes
pub mod Explicit
pub mod Demands
pub mod Rebound
