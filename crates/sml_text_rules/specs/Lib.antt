pub mod BasisLines
pub mod Canonical
pub mod CanonicalLaws
pub mod Paths
pub mod Texts
pub mod Statements
pub mod Samples
