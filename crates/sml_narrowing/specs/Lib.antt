pub mod Plain
pub mod Views
pub mod CodeMatrix
pub mod CodeTasks
