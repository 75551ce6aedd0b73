pub mod Script
pub mod Counts
pub mod Reader
pub mod Reading
pub mod Places
