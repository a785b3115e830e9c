pub mod Rows
pub mod Rule
pub mod Every
pub mod Penalises
pub mod Small
