pub mod Commands
pub mod Printing
pub mod Transcripts
pub mod Sales
