pub mod Content
pub mod Reading
pub mod Spelling
pub mod Laid
pub mod Parts
pub mod Remasking
pub mod Edges
pub mod Seen
