pub mod State
pub mod Names
pub mod Kinds
