mod Chains
mod Drafts
pub mod Asking
mod Bounding
mod Tells
mod Counting
