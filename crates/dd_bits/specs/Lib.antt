pub mod Bits
pub mod Numbers
pub mod Reader
pub mod Writer
pub mod Sequences
