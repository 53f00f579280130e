pub mod Samples
pub mod MovedPieces
pub mod MovedLines
pub mod MovedTexts
pub mod Appearances
pub mod StandingLines
pub mod Agreeing
pub mod CanonicalBases
