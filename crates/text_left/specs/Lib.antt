pub mod Dumped
pub mod Left
pub mod Says
