pub mod Meaning
pub mod Recording
pub mod Boxes
pub mod Looking
pub mod Spans
pub mod Refusal
