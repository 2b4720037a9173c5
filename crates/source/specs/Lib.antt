pub mod Refusals
pub mod Meaning
pub mod Opening
pub mod Stored
pub mod Layers
pub mod Draining
pub mod Shown
pub mod Short
