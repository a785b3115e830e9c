-- What the proofs of several functions use.
mod Merging
mod Sorting
