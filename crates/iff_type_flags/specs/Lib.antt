pub mod Classes
pub mod laws
