pub mod Buffers
pub mod Planes
