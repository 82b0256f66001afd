mod Growing
pub mod Laws
mod Marks
pub mod Numbers
pub mod Pushing
pub mod Reaching
mod Sameness
