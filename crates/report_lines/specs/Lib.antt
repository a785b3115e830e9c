pub mod Report
pub mod Length
