pub mod Made
pub mod Built
pub mod Lent
pub mod Parts
pub mod Left
pub mod Proved
pub mod Samples
pub mod Fresh
