pub mod Trees
pub mod Frames
pub mod Maps
pub mod Shapes
pub mod OneHead
pub mod Rolling
mod Opened
pub mod NamedItems
pub mod Alike
