pub mod MadePackets
pub mod Recorded
