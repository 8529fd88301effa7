pub mod Lines
pub mod Extents
