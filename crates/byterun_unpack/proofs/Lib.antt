pub mod Plain
pub mod Steps
