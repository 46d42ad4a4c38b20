pub mod Body
pub mod Counting
pub mod Lines
pub mod Rows
pub mod Shapes
