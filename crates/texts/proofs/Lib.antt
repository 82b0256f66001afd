pub mod Texts
pub mod Spellings
pub mod Fills
pub mod Folds
