pub mod Value
pub mod Upto
