pub mod Rules
pub mod Layout
pub mod Code
