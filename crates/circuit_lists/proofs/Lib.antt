-- What the proofs of several functions use.
mod Starting
mod Topping
mod Reading
