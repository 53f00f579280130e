pub mod Sinks
mod Copies
