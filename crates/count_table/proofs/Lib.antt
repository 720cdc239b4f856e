pub mod Choosing
pub mod Tabling
