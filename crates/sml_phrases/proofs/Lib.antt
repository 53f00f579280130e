pub mod Holding
pub mod Failures
pub mod Drops
pub mod Answers
