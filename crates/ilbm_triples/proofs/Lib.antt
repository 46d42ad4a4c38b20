pub mod Made
pub mod Pictures
