-- The theorem that an edit of a definition in specs/ breaks.
pub mod Accepted
