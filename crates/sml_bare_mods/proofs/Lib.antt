mod DerivedHeights
mod Reversed
mod Chains
mod Pushes
mod Refused
mod Bindings
mod Descriptions
mod Applications
