-- What the timing program's loops keep.
pub mod Rounds
