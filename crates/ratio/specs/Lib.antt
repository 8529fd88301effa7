pub mod Edges
pub mod Rule
pub mod Space
pub mod Laws
pub mod Climbing
