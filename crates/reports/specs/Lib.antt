pub mod Figures
pub mod Building
pub mod Walking
pub mod Performs
pub mod Sessions
pub mod Scripts
