pub mod Direction
pub mod Levels
pub mod Rule
pub mod Space
pub mod Laws
