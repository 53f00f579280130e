mod Everything
mod Noted
mod Telling
mod PatViews
mod Adding
mod Ruled
mod Losing
mod Stepping
