pub mod Near
pub mod Frames
pub mod Numbers
pub mod Receivers
pub mod States
pub mod Kept
pub mod Laws
