pub mod Assembled
pub mod Joins
pub mod Steps
pub mod Slots
pub mod Kept
