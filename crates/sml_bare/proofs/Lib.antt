mod Within
mod Wholes
mod Sourcing
mod Making
