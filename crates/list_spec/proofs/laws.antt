pub mod Counts
pub mod Data
