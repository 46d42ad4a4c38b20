pub mod laws
pub mod Demand3
pub mod TwoLevels
pub mod Examples
