pub mod Judging
pub mod Lines
pub mod Plain
pub mod Writing
