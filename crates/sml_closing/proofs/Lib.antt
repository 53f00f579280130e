mod Gathering
mod Telling
