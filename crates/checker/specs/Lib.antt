pub mod Pieces
pub mod Transcript
pub mod Meeting
pub mod Spans
