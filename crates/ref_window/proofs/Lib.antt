pub mod Rings
pub mod Held
pub mod Forgetting
pub mod Recent
