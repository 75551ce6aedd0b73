pub mod TemplateStructure
pub mod Reading
pub mod Spelling
pub mod Pair
pub mod Columns
