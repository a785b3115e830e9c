-- What the proofs of several functions use.
pub mod Trues
pub mod Ending
