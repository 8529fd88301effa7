pub mod Leavings
pub mod Made
pub mod Strange
pub mod Turns
pub mod Blocks
pub mod Listed
pub mod Loans
