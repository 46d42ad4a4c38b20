pub mod Codes
pub mod Name
