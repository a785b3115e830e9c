pub mod Give
pub mod Asked
