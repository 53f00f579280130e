pub mod Extents
pub mod Nonempty
mod FoundsWithin
mod EventsWithin
mod MisfitsWithin
mod FlawsWithin
mod EachPhrase
mod EachPattern
mod EachDerived
mod EachExpression
mod EachFunction
mod EachDeclaration
mod EachModule
mod EachTop
mod EachPiece
pub mod PlacesWithin
pub mod OneList
