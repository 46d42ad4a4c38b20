pub mod Planes
pub mod Put
