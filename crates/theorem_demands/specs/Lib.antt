pub mod Numbers
pub mod Refusals
pub mod Examples
pub mod Listings
pub mod Tables
