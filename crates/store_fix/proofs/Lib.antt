-- Lemmas that several proofs cite.
pub mod Removing
pub mod Fixed
