pub mod Report
pub mod Lines
