pub mod Meaning
pub mod Names
pub mod Numbers
pub mod Services
pub mod Refusals
pub mod Sounds
pub mod NamesLemmas
