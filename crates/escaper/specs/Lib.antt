pub mod Escape
pub mod Walk
