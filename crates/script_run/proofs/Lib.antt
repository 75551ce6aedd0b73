pub mod Replies
pub mod Histories
