pub mod Halves
pub mod Name
