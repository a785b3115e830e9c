-- Lemmas that several proofs cite.
pub mod Gives
pub mod Passing
