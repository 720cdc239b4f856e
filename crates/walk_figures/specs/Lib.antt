pub mod Jobs
pub mod Walked
