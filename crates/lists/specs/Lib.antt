pub mod Notation
pub mod Bytes
pub mod Rooms
pub mod Layings
