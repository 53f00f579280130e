pub mod Mapped
pub mod Orders
pub mod Functions
pub mod Counted
pub mod NewNames
