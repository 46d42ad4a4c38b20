pub mod Reading
pub mod Agree
