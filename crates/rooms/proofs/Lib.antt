pub mod Putting
pub mod Fits
