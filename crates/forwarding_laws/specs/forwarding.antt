-- Terms of forwarding, and its laws.
pub mod TargetWords
pub mod Since
pub mod Restart
pub mod Decisions
pub mod StandingSteps
pub mod Openings
pub mod PassedFrames
pub mod VerdictWords
pub mod CauseWords
pub mod OutgoingWords
pub mod Taken
pub mod Plain
pub mod Laws
