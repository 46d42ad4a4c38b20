pub mod Write
pub mod laws
