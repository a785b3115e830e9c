-- What the one pass over the pairs asks of the tables.
pub mod Sifting
