pub mod Order
pub mod Coming
pub mod laws
