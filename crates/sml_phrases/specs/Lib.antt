pub mod Phrases
pub mod PhraseViews
pub mod PhraseHeights
