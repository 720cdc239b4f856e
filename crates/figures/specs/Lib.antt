pub mod TwoModules
