pub mod Listed
pub mod Lent
