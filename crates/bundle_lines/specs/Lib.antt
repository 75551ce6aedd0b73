pub mod Commands
pub mod Lines
pub mod ReadLines
pub mod Replies
