pub mod Sharing
pub mod Telling
pub mod Points
