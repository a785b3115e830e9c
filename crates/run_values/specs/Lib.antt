pub mod Need
pub mod Asking
pub mod Code
pub mod Fuel
