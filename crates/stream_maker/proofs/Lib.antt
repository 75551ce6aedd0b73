pub mod PacketsLeft
pub mod TurnsLeft
pub mod Steps
