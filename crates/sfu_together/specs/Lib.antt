pub mod History
pub mod Turns
pub mod Acting
pub mod Together
