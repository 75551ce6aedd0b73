pub mod ActorLines
pub mod Commands
pub mod Fields
pub mod Ports
pub mod ReadLines
pub mod Reading
pub mod Replies
pub mod Skipped
