pub mod Standings
pub mod Words
pub mod Listings
pub mod Keys
pub mod Rows
