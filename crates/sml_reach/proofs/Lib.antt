mod Sharing
mod Ways
mod Parts
mod Reaching
mod Gathering
mod Keeping
pub mod Parting
pub mod Somes
pub mod UpTo
pub mod Firsts
pub mod OneOutcome
pub mod Alone
