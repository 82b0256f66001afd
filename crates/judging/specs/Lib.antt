pub mod Judging
pub mod Following
