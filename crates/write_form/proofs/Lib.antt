pub mod Chunks
pub mod Files
pub mod Signed
