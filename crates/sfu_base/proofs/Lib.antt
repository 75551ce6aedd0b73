pub mod Fresh
mod Walks
