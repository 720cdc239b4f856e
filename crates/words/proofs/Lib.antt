pub mod Spaces
pub mod Reading
pub mod Filling
