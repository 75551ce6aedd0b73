pub mod History
pub mod Known
pub mod Views
pub mod Rule
