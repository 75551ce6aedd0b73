-- Terms for what a strict receiver accepts, and the laws about it.
pub mod Accepted
pub mod Laws
