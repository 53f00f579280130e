pub mod PatternSequences
mod RoundPatterns
