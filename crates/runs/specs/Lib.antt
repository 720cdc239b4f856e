pub mod Stands
pub mod Does
pub mod Runs
