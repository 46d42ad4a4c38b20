pub mod Additions
pub mod Statement
