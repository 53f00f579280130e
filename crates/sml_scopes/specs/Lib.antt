pub mod Means
pub mod Found
pub mod Tells
pub mod CodeTables
pub mod CodeScopes
