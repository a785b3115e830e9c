-- What the proofs of several functions use; and `Reached`, the theorems on the definitions of `specs/Reached.antt`.
mod Ways
pub mod Cycle
pub mod Reached
