pub mod Pairs
pub mod Tellings
