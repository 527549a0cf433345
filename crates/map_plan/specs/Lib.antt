pub mod Members
pub mod Asking
pub mod Live
pub mod Plans
