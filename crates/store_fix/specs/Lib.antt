pub mod Fixing
