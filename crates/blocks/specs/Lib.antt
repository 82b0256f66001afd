pub mod Moves
pub mod Blocks
pub mod Laws
pub mod Search
pub mod Marks
