pub mod Pair
pub mod Laws
pub mod Recorded
pub mod Rows
