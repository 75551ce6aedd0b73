-- Terms for the frames of a track, and their laws.
pub mod WholeFrames
pub mod Making
pub mod Laws
