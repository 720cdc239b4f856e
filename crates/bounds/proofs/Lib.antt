pub mod Answerable
pub mod Changing
pub mod Standing
