mod Knowing
pub mod FirstFlaws
mod Flawing
mod Marking
pub mod Scoping
