-- Lemmas that proofs cite.
pub mod Model
pub mod Ran
pub mod Behind
pub mod Part
