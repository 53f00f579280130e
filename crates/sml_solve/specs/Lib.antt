pub mod Calls
pub mod Clashes
