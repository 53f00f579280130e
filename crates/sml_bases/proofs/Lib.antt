pub mod EnvViews
mod Nearest
pub mod SomeEntries
pub mod Totals
mod Unknowns
