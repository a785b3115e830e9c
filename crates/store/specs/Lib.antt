-- What stands in the tables, and what reading it asks.
pub mod Tables
pub mod Held
pub mod Evaluating
pub mod Full
