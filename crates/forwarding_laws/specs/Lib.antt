pub mod forwarding
pub mod frames
pub mod receiver
pub mod histories
