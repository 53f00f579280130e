pub mod Lists
mod HeightLists
mod HeightParts
pub mod TreeViews
pub mod ExpViews
pub mod Idents
pub mod Tables
mod Instances
mod DepthLists
mod RightSides
