-- Lemmas that several proofs cite.
pub mod Tables
pub mod Filling
pub mod Entries
