pub mod Expr
pub mod Sessions
pub mod Places
pub mod Tables
pub mod Laws
