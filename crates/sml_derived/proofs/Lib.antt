pub mod Lists
pub mod Views
mod Searches
pub mod Hiding
