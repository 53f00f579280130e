pub mod Spots
pub mod Maps
