pub mod Evaluated
pub mod Cut
pub mod Left
pub mod Proved
pub mod Samples
pub mod Lent
