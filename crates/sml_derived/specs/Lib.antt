pub mod Words
pub mod Derived
pub mod Laws
pub mod Views
pub mod CodeHidden
