pub mod Gathered
pub mod Statuses
