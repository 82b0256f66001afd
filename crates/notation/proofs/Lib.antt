pub mod Notation
pub mod Steps
