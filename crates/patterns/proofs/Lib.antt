pub mod Accepted
mod Bodies
pub mod Determined
mod Drafts
mod Exits
mod Fronts
mod Grows
mod Openings
mod Parses
mod Patterns
mod Standing
mod Tables
