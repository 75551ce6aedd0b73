pub mod ConvertLaws
pub mod MadePackets
pub mod RecordedLaws
