pub mod Either
pub mod Working
