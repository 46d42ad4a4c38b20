pub mod WalkLaws
pub mod WayLaws
