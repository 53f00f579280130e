pub mod PatternPhrases
pub mod NameRules
pub mod PatternRules
pub mod TypeRules
