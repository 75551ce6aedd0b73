pub mod LaidOut
pub mod Originals
