pub mod Heights
pub mod Levelled
