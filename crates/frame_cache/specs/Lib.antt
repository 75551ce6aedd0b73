pub mod Capacity
pub mod Sharing
