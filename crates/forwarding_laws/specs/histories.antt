-- Terms for the events of each subscriber in a history, and their laws.
pub mod HistoryWords
pub mod Laws
