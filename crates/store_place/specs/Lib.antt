-- Placing: the log, what it asks of the tables, and how far they grow.
pub mod Wiring
pub mod Logged
pub mod Room
pub mod Growth
pub mod Samples
