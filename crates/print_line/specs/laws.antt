pub mod Examples
pub mod Words
