pub mod TogetherForms
pub mod ServeTurns
pub mod ServeLines
pub mod ServeBacks
pub mod ServeRun
pub mod ServeActing
pub mod ServeForms
pub mod ServeRoles
pub mod Completing
mod SimulcastServing
mod SimulcastReplies
mod SimulcastPromise
