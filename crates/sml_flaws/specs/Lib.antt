pub mod Marks
pub mod Known
pub mod Flawed
pub mod Roles
pub mod Flaws
pub mod CodeContexts
pub mod CodeScopes
