pub mod Faults
pub mod Items
pub mod Sums
pub mod Block
pub mod Reading
pub mod Writing
pub mod Drafts
pub mod Theorems
