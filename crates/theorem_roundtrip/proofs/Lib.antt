pub mod laws
pub mod RoundTrip
