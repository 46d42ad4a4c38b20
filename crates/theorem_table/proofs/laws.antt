pub mod Lies
pub mod Rows
pub mod Told
