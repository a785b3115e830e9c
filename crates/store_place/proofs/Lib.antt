-- Lemmas that several proofs cite.
pub mod Placing
