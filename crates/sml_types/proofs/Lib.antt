mod Closings
pub mod Paths
pub mod Entries
mod Numbered
pub mod Listing
pub mod RowLabels
mod Admitting
mod Arguments
mod Meanings
pub mod TyViews
mod ReadLists
mod Readings
mod NamedFunctions
pub mod RowFields
mod Counting
mod Instances
mod UsedArguments
pub mod SideArguments
pub mod Extensions
mod Losing
mod NewNames
mod Settled
mod TypeBinds
mod TypeSizes
mod TypeMaps
mod SideTables
mod OwnVariables
mod DatatypeRows
mod Sequences
mod Taken
mod ArgumentBinds
mod ConstructorSizes
mod InnerScopes
mod GivenDatatypes
mod Carrying
