pub mod Cuts
pub mod Derivatives
pub mod Ranges
pub mod Tables
pub mod After
pub mod Theorem
