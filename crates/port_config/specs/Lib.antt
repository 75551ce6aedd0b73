pub mod Driven
pub mod actors
pub mod ports
