pub mod Memory
pub mod Telling
pub mod Reached
pub mod Ended
pub mod Performing
pub mod Carried
