pub mod RulePhrases
pub mod SourceViews
pub mod Derivations
pub mod CodeSources
