pub mod Retries
