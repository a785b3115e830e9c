-- The pair tables: what they mean, and the laws of the log.
pub mod Store
pub mod Laws
pub mod Samples
pub mod Over
pub mod Tables
