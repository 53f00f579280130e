pub mod ProjectFiles
pub mod Orders
