pub mod Fields
pub mod Faults
pub mod Packet
pub mod Seen
pub mod Rewritten
pub mod Restamped
