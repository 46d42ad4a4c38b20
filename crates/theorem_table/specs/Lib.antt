pub mod ByTable
pub mod Lies
