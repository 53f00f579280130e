pub mod Appearing
pub mod Comparisons
pub mod Extents
pub mod Large
pub mod Mapped
pub mod Renamed
