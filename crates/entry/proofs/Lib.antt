pub mod Counting
pub mod Newlines
pub mod Spaces
