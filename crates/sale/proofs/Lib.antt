pub mod Booking
pub mod Giving
pub mod Recording
pub mod Transcribing
pub mod Moving
