pub mod Beginnings
pub mod Answers
pub mod Allowing
