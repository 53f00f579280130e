pub mod Elaborated
pub mod CodeMatched
