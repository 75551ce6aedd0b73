pub mod Values
pub mod Bytes
pub mod NumberLemmas
pub mod ReadBack
pub mod ReadingLoops
pub mod SequenceLaws
pub mod WritingLoops
