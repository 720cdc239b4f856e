pub mod Words
pub mod Exact
pub mod Numbers
pub mod Rows
