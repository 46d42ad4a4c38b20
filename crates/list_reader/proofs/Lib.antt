pub mod ReaderLaws
pub mod laws
