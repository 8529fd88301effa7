pub mod Logger
