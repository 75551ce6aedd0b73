pub mod Deeds
pub mod Datagrams
pub mod Sessions
pub mod Stepping
pub mod Publishing
pub mod Subscribing
pub mod Controlling
