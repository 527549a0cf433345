pub mod Lines
pub mod Escapes
pub mod Reports
