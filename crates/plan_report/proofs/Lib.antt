pub mod Listings
pub mod Lines
pub mod Rows
pub mod Once
