pub mod Scopes
pub mod Spots
