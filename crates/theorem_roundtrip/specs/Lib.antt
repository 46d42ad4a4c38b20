pub mod Expected
pub mod Header
pub mod RoundTrip
