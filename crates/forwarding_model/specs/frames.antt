-- How the packets of a track are read, and which frames they make.
pub mod Reading
pub mod Cuts
pub mod Frames
pub mod TrackFrames
