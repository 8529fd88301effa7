pub mod Asking
pub mod Leaving
pub mod Lending
pub mod Replaying
