mod TypeChains
mod TypeFields
mod PatternLists
mod PatternFields
mod Layers
