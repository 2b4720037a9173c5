pub mod Counts
pub mod Digits
pub mod Frames
pub mod Fronts
pub mod Laws
pub mod Lines
pub mod Loading
pub mod Refusals
