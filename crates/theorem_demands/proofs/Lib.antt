pub mod laws
pub mod Demands
