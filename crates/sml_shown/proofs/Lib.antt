pub mod Moves
pub mod Starts
pub mod OneByte
