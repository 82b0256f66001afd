pub mod Letters
pub mod Names
pub mod Spellings
