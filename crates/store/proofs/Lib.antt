-- Lemmas that several proofs cite.
pub mod Adding
pub mod Energies
pub mod Lent
