pub mod Dialled
pub mod Queued
pub mod Texts
