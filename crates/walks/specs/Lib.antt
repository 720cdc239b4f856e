pub mod Settings
pub mod Opening
pub mod Trails
pub mod States
pub mod Outcomes
