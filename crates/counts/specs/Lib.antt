pub mod Least
pub mod Floors
pub mod Counting
