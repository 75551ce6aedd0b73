pub mod Forms
pub mod Blocks
pub mod Reading
pub mod Seen
pub mod Writing
pub mod Reblocked
