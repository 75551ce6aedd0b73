pub mod Placing
pub mod Counting
pub mod Histories
pub mod Ending
pub mod Turning
pub mod Seating
pub mod Statuses
pub mod Bytes
