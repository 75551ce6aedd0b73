pub mod Faultless
pub mod Plain
pub mod Rewriting
pub mod Found
pub mod Taken
pub mod Answered
pub mod Readdressed
pub mod Restamping
