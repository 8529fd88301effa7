pub mod Boxing
pub mod Counting
pub mod Levelled
pub mod Lines
pub mod Making
pub mod Numbering
pub mod Scanning
pub mod Spanning
