pub mod Order
pub mod Turns
pub mod YesCut
