pub mod Bytes
pub mod Packed
pub mod Examples
pub mod Written
