pub mod Placed
pub mod Codes
