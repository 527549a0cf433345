pub mod Parts
pub mod Lines
pub mod Writes
pub mod Escapes
pub mod Phrases
pub mod Reports
