pub mod WholeCuts
pub mod Outcomes
