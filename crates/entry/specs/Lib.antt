pub mod Line
pub mod Text
pub mod Lines
pub mod Told
