pub mod Records
pub mod Contents
pub mod Tells
