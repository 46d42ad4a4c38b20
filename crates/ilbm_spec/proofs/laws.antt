pub mod Ignored
pub mod Moved
pub mod Pictures
pub mod Rows
pub mod Shapes
pub mod Coloured
pub mod Colours
