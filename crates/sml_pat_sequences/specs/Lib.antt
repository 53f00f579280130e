pub mod PatternSequences
pub mod RoundPatterns
pub mod LowViews
