pub mod Clean
pub mod Pads
