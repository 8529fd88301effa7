pub mod Joining
pub mod Spanning
