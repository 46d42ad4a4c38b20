pub mod Bytes
pub mod Examples
pub mod Steps
pub mod Packing
