pub mod Entries
pub mod Sets
pub mod Answers
pub mod Timing
pub mod Letters
pub mod Rows
