pub mod laws
pub mod Accept
