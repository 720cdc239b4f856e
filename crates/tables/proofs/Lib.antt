pub mod JoinSteps
pub mod Masks
