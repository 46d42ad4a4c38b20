pub mod Pack
pub mod Written
