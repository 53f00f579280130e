mod Paths
mod Texts
mod Reading
mod Answering
mod Ending
