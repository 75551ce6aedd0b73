pub mod Distances
pub mod Lowering
pub mod Judging
pub mod Accepting
pub mod Parts
pub mod Feeding
pub mod Histories
pub mod Complaints
