-- What the operands are, as a list.
pub mod Listed
