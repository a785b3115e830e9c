pub mod Order
pub mod Fixing
