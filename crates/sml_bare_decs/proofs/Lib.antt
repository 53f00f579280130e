mod Bindings
mod FunctionHeights
mod Headings
mod Clauses
mod Rows
mod Skips
