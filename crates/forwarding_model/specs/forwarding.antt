-- The events of a subscriber, which frames are forwarded to it and in which packets, and why other frames are withheld.
pub mod Timeline
pub mod Targets
pub mod Selection
pub mod Standing
pub mod Outgoing
pub mod Causes
pub mod Decodable
