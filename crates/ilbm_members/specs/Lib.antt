pub mod Members
pub mod Gathers
