pub mod Checked
pub mod laws
