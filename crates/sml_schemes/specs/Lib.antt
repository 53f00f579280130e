pub mod Left
pub mod Fixed
pub mod Schemes
