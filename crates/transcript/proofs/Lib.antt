mod Showing
pub mod Writing
