pub mod Bounding
pub mod Found
pub mod Alike
pub mod Findings
