pub mod Stands
pub mod Shape
pub mod Warnings
pub mod Views
pub mod CodeMatrix
pub mod CodeTasks
pub mod CodeColumns
