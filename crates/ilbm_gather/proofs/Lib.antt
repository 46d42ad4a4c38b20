pub mod Colours
pub mod Eights
