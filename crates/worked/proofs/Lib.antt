pub mod Spaces
pub mod Archives
pub mod Blocks
pub mod Shown
