pub mod Head
pub mod Values
pub mod Lines
