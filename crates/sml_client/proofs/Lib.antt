mod Ends
mod Parts
mod Lines
pub mod Taking
pub mod Telling
pub mod Growing
pub mod Places
pub mod Joining
pub mod Addresses
