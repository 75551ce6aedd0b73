pub mod Entry
pub mod Book
pub mod Slots
pub mod Kept
pub mod Path
pub mod Model
