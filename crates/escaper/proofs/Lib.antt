pub mod Quiet
pub mod Begins
pub mod Walking
pub mod Written
pub mod Bound
pub mod Answered
pub mod EscapeTable
pub mod EscapeEdges
