pub mod Kinds
pub mod ReadRecords
pub mod Records
pub mod Values
pub mod RecordCut
pub mod Script
