pub mod Laid
pub mod Found
pub mod Rowed
pub mod Lent
