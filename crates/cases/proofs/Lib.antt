-- Lemmas that proofs cite.
pub mod Filled
pub mod Names
