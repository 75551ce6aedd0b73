pub mod Leb
pub mod Payloads
pub mod Reading
pub mod Faults
pub mod Seen
