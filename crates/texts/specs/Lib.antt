pub mod Parts
pub mod Tokens
pub mod Lines
pub mod Numbers
