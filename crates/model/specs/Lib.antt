pub mod Steps
pub mod Demand
pub mod Modelled
