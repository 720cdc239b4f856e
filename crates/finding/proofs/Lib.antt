pub mod Allowed
pub mod Posing
pub mod Walks
pub mod Endings
pub mod Costs
pub mod Agreeing
