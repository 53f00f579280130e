pub mod Seals
pub mod Projects
mod Copies
mod OwnPlaces
pub mod Names
pub mod Replying
mod Several
pub mod Written
pub mod Standing
mod Files
mod Counting
pub mod Complete
