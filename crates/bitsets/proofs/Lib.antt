pub mod Iff
pub mod Sets
