pub mod Headers
pub mod Joined
