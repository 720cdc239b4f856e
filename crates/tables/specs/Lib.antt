pub mod Modules
pub mod Sheet
pub mod Joins
pub mod Setups
