pub mod Counts
pub mod Cuts
pub mod Filling
pub mod Judging
pub mod Reading
pub mod Standing
pub mod Turns
pub mod Values
