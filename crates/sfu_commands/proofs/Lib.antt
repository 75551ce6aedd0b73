pub mod Converting
pub mod Checking
pub mod Recording
pub mod IdWords
pub mod Starving
pub mod StreamNumbers
