pub mod Numbers
pub mod RecordLaws
pub mod RecordScans
pub mod Alike
