pub mod Lists
pub mod forwarding
pub mod frames
pub mod Receiver
pub mod History
