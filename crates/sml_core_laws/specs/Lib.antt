pub mod Largest
pub mod Made
pub mod Natural
