pub mod Joining
pub mod Leasts
pub mod Taking
pub mod Sound
