pub mod ByteRun
pub mod Packing
