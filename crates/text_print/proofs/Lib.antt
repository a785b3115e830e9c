-- Lemmas that several proofs cite.
pub mod Tables
pub mod Parts
pub mod Whole
pub mod Short
