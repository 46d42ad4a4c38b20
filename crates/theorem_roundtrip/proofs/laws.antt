pub mod Lines
pub mod Planes
pub mod Seen
pub mod Shapes
pub mod Tree
pub mod Writable
pub mod Header
