pub mod laws
pub mod Theorem
