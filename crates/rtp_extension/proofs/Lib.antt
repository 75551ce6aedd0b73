pub mod Steps
pub mod Grammar
pub mod Joining
pub mod Reblocking
pub mod Appending
