pub mod Solvers
pub mod Steps
pub mod Closings
pub mod Determined
