pub mod Recent
pub mod Places
pub mod Downward
pub mod Writing
pub mod Judging
pub mod Paths
pub mod Modelled
