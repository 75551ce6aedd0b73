pub mod Bare
pub mod Retransmission
pub mod Faults
