pub mod Choosing
pub mod PublisherSteps
pub mod SubscriberSteps
pub mod ControlSteps
