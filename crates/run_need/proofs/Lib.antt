-- The mathematics of the cycle of calls.
mod Cycle
