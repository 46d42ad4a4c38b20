pub mod Coming
pub mod Order
