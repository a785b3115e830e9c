pub mod Few
pub mod Logs
pub mod Blank
