pub mod Listings
pub mod Manifests
pub mod InOrder
pub mod Needs
pub mod Placing
