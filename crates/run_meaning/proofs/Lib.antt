-- What the proofs of several functions use.
pub mod Left
pub mod Rows
pub mod Chain
