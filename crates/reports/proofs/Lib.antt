pub mod Tellings
pub mod Endings
pub mod Alike
pub mod Idle
