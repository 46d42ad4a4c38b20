pub mod KnownBytes
pub mod WalkLaws
