pub mod Trees
pub mod EachPlace
pub mod Within
pub mod Unique
