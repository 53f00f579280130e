pub mod AppliedSizes
pub mod Arities
pub mod Counts
pub mod FunctionViews
pub mod Listed
pub mod Orders
mod TypeMaps
pub mod Replacing
