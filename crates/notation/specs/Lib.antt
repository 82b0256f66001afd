pub mod Notation
pub mod Fields
