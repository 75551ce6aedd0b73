pub mod Standing
pub mod Cuts
pub mod Joins
