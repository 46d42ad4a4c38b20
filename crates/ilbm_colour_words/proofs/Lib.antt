pub mod Filled
pub mod Held
pub mod Laws
pub mod Meet
